-- The words of a file.
use Rattle.std.specs.Prelude.{ℕ, ◌+◌, ◌*◌, ◌/◌, ◌%◌, List, [], ◌∷◌, ◌++◌, length}
use Rattle.packing.specs.declared.packing.Packing.{Packing}
use Rattle.packing.specs.declared.packing.Packing.TheVariants.{Halves, Bytes, Pairs}

-- each word is below this
abbrev pub limit : Packing → ℕ
limit Halves = 16
limit Bytes = 256
limit Pairs = 65536

-- how many words so many bytes take
abbrev pub words_for : Packing → ℕ → ℕ
words_for Halves n = 2 * n
words_for Bytes n = n
words_for Pairs n = (n + 1) / 2

-- how many words hold a length, which has 4 bytes
abbrev pub length_words : Packing → ℕ
length_words p = words_for p 4

-- the halves of the bytes, the low one first
abbrev pub halves : List ℕ → List ℕ
halves [] = []
halves (b ∷ bs) = b % 16 ∷ b / 16 ∷ halves bs

-- two bytes to a word, the low one first; an odd last byte is alone
abbrev pub pairs : List ℕ → List ℕ
pairs [] = []
pairs (a ∷ []) = a ∷ []
pairs (a ∷ b ∷ bs) = (a + 256 * b) ∷ pairs bs

-- the words of bytes
abbrev pub in_words : Packing → List ℕ → List ℕ
in_words Halves bytes = halves bytes
in_words Bytes bytes = bytes
in_words Pairs bytes = pairs bytes

-- a length in 4 bytes, low byte first
abbrev pub length_bytes : ℕ → List ℕ
length_bytes n = n % 256 ∷ n / 256 % 256 ∷ n / 65536 % 256 ∷ n / 16777216 % 256 ∷ []

-- the words of a file: its length, and then its bytes
abbrev pub packed : Packing → List ℕ → List ℕ
packed p bytes = in_words p (length_bytes (length bytes) ++ bytes)
