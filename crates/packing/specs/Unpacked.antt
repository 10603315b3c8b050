-- The file that words begin with.
use Rattle.std.specs.Prelude.{ℕ, zero, suc, ◌+◌, ◌*◌, ◌/◌, ◌%◌, cond, List, [], ◌∷◌, Some, None, Option, nat_lt, ◌==◌}
use Rattle.std.specs.List.{slice_get}
use Rattle.std.specs.Option.{option_map, option_and_then}
use Rattle.packing.specs.declared.packing.Packing.{Packing}
use Rattle.packing.specs.declared.packing.Packing.TheVariants.{Halves, Bytes, Pairs}
use Rattle.packing.specs.Packed.{limit, length_words, words_for}

-- a number below a limit
abbrev pub below : ℕ → ℕ → Option ℕ
below most w = cond (nat_lt w most) (Some w) None

-- a word, where there is one and it is in the packing's range
abbrev pub word_at : Packing → List ℕ → ℕ → Option ℕ
word_at p ws i = option_and_then (below (limit p)) (slice_get ws i)

-- byte i of what is packed in the words, where each word that holds some of it is there and in range
abbrev pub byte_at : Packing → List ℕ → ℕ → Option ℕ
byte_at Halves ws i = option_and_then (λ low. option_map (λ high. low + 16 * high) (word_at Halves ws (2 * i + 1))) (word_at Halves ws (2 * i))
byte_at Bytes ws i = word_at Bytes ws i
byte_at Pairs ws i = option_map (λ w. cond (i % 2 == 0) (w % 256) (w / 256)) (word_at Pairs ws (i / 2))

-- n bytes from byte i on, where all are there
abbrev pub bytes_from : Packing → List ℕ → ℕ → ℕ → Option (List ℕ)
bytes_from p ws i zero = Some []
bytes_from p ws i (suc n) = option_and_then (λ b. option_map (λ bs. b ∷ bs) (bytes_from p ws (i + 1) n)) (byte_at p ws i)

-- the number that bytes write, low byte first
abbrev pub number_of : List ℕ → ℕ
number_of [] = 0
number_of (b ∷ bs) = b + 256 * number_of bs

-- the length of the file, which the first 4 bytes write
abbrev pub file_length : Packing → List ℕ → Option ℕ
file_length p ws = option_map number_of (bytes_from p ws 0 4)

-- how many words the file takes
abbrev pub file_words : Packing → List ℕ → Option ℕ
file_words p ws = option_map (λ n. length_words p + words_for p n) (file_length p ws)

-- the bytes of the file, which come after its length
abbrev pub unpacked : Packing → List ℕ → Option (List ℕ)
unpacked p ws = option_and_then (λ n. bytes_from p ws 4 n) (file_length p ws)
