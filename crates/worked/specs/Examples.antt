-- Worked examples of the three fields and of arrays over them, in one table.
use Rattle.std.specs.Prelude.{◌≡◌, ℕ, ◌+◌, ◌<◌, List, [], ◌∷◌, ◌++◌, length, Ok, slice_index, slice_set}
use Rattle.field.specs.Arithmetic.{Arithmetic}
use Rattle.field.specs.Fields as fields
use Rattle.plan.specs.Coefficients.{Coefficients}
use Rattle.plan.specs.Powers.{powers}
use Rattle.plan.specs.Rows.{Vector}
use Rattle.shelf.specs.Table.{Table, blank, holds}
use Rattle.shelf.specs.Calls.{bit, Set}
use Rattle.array.specs.Decoding.{decoded, AllowsOne}
use Rattle.array.specs.Changes.{row_words, LaidBelow}
use Rattle.array.specs.Moving.{Rewritten}
use Rattle.array.specs.Service.{MendAnswer}
use Rattle.array.specs.declared.mending.Mending.TheVariants.{Patched}
use Rattle.worked.specs.Places.{among, Stands, Possible}

pub data Name : Type 0 where
  nibble : Name
  byte : Name
  count : Name

abbrev pub arithmetic_of : Name → Arithmetic
arithmetic_of nibble = fields.nibble
arithmetic_of byte = fields.byte
arithmetic_of count = fields.count

-- An example, in the named field. An array has a plan of powers, with m check bays. `left` are the bays below whose cells are filled,
-- all others being blank. What is told comes with a combination of the rows of the bays left that makes the row of the bay; what is lost
-- with a vector on which all of them give zero and the row of the bay does not.
pub data Example : Type 0 where
  -- two codes and their product, two codes and their quotient, a code and its inverse
  product : Name → (a b r : ℕ) → Example
  quotient : Name → (a b r : ℕ) → Example
  inverse : Name → (a r : ℕ) → Example
  -- words that are laid, and those that the check bays have then
  lays : Name → (words checks : List ℕ) → Example
  -- the words of a place, the word that bay j gets, and those that the check bays have then
  writes : Name → (words : List ℕ) → (j new : ℕ) → (checks : List ℕ) → Example
  -- the words of a place, and the word that bay j reads
  reads : Name → (m : ℕ) → (words left : List ℕ) → (j word : ℕ) → (combination : List ℕ) → Example
  -- the words of a place, and the word that a mend puts into bay b below
  mends : Name → (m : ℕ) → (words left : List ℕ) → (b word : ℕ) → (combination : List ℕ) → Example
  -- bay j reads its word, or it is lost, whatever the n words of the place are
  tells : Name → (n m : ℕ) → (left : List ℕ) → (j : ℕ) → (combination : List ℕ) → Example
  loses : Name → (n m : ℕ) → (left : List ℕ) → (j : ℕ) → (vector : List ℕ) → Example
  -- words that are laid, with the other bays below stopped: the bits that the shelf below answers, and those of the array, with a
  -- combination for each data bay
  answers : Name → (m : ℕ) → (words left : List ℕ) → (low bits : ℕ) → (combinations : List (List ℕ)) → Example

-- of three data bays and three check bays, all but 1, 2 and 5
abbrev some_of_six : List ℕ
some_of_six = 0 ∷ 3 ∷ 4 ∷ []

-- of six data bays and four check bays, all but 0, 5, 7 and 8
abbrev six_of_ten : List ℕ
six_of_ten = 1 ∷ 2 ∷ 3 ∷ 4 ∷ 6 ∷ 9 ∷ []

-- of two data bays and a check bay, all but 1
abbrev two_of_three : List ℕ
two_of_three = 0 ∷ 2 ∷ []

abbrev pub examples : List Example
examples =
    product nibble 3 7 9
    ∷ product nibble 13 10 11
    ∷ quotient nibble 3 7 10
    ∷ product byte 2 128 29
    ∷ inverse byte 2 142
    ∷ product count 65536 65536 1
    ∷ inverse count 2 32769
    ∷ lays nibble (3 ∷ 13 ∷ 9 ∷ []) (7 ∷ 2 ∷ 9 ∷ [])
    ∷ writes nibble (3 ∷ 13 ∷ 9 ∷ []) 1 1 (11 ∷ 9 ∷ 12 ∷ [])
    ∷ reads nibble 3 (3 ∷ 1 ∷ 9 ∷ []) some_of_six 0 3 (1 ∷ 0 ∷ 0 ∷ [])
    ∷ reads nibble 3 (3 ∷ 1 ∷ 9 ∷ []) some_of_six 1 1 (2 ∷ 3 ∷ 1 ∷ [])
    ∷ reads nibble 3 (3 ∷ 1 ∷ 9 ∷ []) some_of_six 2 9 (3 ∷ 2 ∷ 1 ∷ [])
    ∷ mends nibble 3 (3 ∷ 1 ∷ 9 ∷ []) some_of_six 5 12 (6 ∷ 6 ∷ 1 ∷ [])
    ∷ loses nibble 6 4 six_of_ten 0 (1 ∷ 0 ∷ 0 ∷ 0 ∷ 0 ∷ 1 ∷ [])
    ∷ tells nibble 6 4 six_of_ten 1 (1 ∷ 0 ∷ 0 ∷ 0 ∷ 0 ∷ 0 ∷ [])
    ∷ tells nibble 6 4 six_of_ten 2 (0 ∷ 1 ∷ 0 ∷ 0 ∷ 0 ∷ 0 ∷ [])
    ∷ tells nibble 6 4 six_of_ten 3 (0 ∷ 0 ∷ 1 ∷ 0 ∷ 0 ∷ 0 ∷ [])
    ∷ tells nibble 6 4 six_of_ten 4 (0 ∷ 0 ∷ 0 ∷ 1 ∷ 0 ∷ 0 ∷ [])
    ∷ loses nibble 6 4 six_of_ten 5 (1 ∷ 0 ∷ 0 ∷ 0 ∷ 0 ∷ 1 ∷ [])
    ∷ tells byte 6 4 six_of_ten 0 (233 ∷ 177 ∷ 250 ∷ 111 ∷ 118 ∷ 119 ∷ [])
    ∷ tells byte 6 4 six_of_ten 1 (1 ∷ 0 ∷ 0 ∷ 0 ∷ 0 ∷ 0 ∷ [])
    ∷ tells byte 6 4 six_of_ten 2 (0 ∷ 1 ∷ 0 ∷ 0 ∷ 0 ∷ 0 ∷ [])
    ∷ tells byte 6 4 six_of_ten 3 (0 ∷ 0 ∷ 1 ∷ 0 ∷ 0 ∷ 0 ∷ [])
    ∷ tells byte 6 4 six_of_ten 4 (0 ∷ 0 ∷ 0 ∷ 1 ∷ 0 ∷ 0 ∷ [])
    ∷ tells byte 6 4 six_of_ten 5 (232 ∷ 176 ∷ 251 ∷ 110 ∷ 119 ∷ 119 ∷ [])
    ∷ lays count (5 ∷ 65535 ∷ []) (3 ∷ [])
    ∷ reads count 1 (5 ∷ 65535 ∷ []) two_of_three 1 65535 (65536 ∷ 1 ∷ [])
    ∷ answers nibble 1 (4 ∷ 9 ∷ []) two_of_three 5 3 ((1 ∷ 0 ∷ []) ∷ (1 ∷ 1 ∷ []) ∷ [])
    ∷ []

-- What an example of an array says: k is the arithmetic of the field, x the plan, t the table below, p a place.

-- A lay puts down the words and the words of the check bays.
abbrev pub Lays : Arithmetic → Coefficients → (words checks : List ℕ) → Type 0
Lays k x words checks = row_words k x words ≡ words ++ checks

-- What a kept write of bay j makes of a place where every cell is filled: each cell holds its word after the write, or went blank.
abbrev pub Writes : Arithmetic → Coefficients → (words : List ℕ) → (j new : ℕ) → (checks : List ℕ) → Type 0
Writes k x words j new checks =
    (s t : Table) (p : ℕ) → ((b : ℕ) → b < x.n + x.m → s.cell b p ≡ holds (slice_index (row_words k x words) b)) → Rewritten k x j p (slice_index words j) new s t →
    (b : ℕ) → b < x.n + x.m → Set (slice_index (slice_set words j new ++ checks) b) (t.cell b p)

-- The array's cell holds the word.
abbrev pub Reads : Arithmetic → Coefficients → (words left : List ℕ) → (j word : ℕ) → Type 0
Reads k x words left j word = (t : Table) (p : ℕ) → Stands k x t p words left → (decoded k x t).cell j p ≡ holds word

-- The cells left allow the word alone, and a mend that patches puts it there, if the cell isn't blank again.
abbrev pub Mends : Arithmetic → Coefficients → (words left : List ℕ) → (b word : ℕ) → Type 0
Mends k x words left b word =
    (t : Table) (p : ℕ) → Stands k x t p words left → AllowsOne k x t b p word × ((u : Table) → MendAnswer k x b p t u (Ok Patched) → Set word (u.cell b p))

abbrev pub TellsAll : Arithmetic → Coefficients → (left : List ℕ) → (j : ℕ) → Type 0
TellsAll k x left j = (words : List ℕ) → (t : Table) (p : ℕ) → Stands k x t p words left → (decoded k x t).cell j p ≡ holds (slice_index words j)

abbrev pub LosesAll : Arithmetic → Coefficients → (left : List ℕ) → (j : ℕ) → Type 0
LosesAll k x left j = (words : List ℕ) → (t : Table) (p : ℕ) → Stands k x t p words left → (decoded k x t).cell j p ≡ blank

-- The bits below are those of the bays left, and a lay that got them below answers the bits above.
abbrev pub Answers : Arithmetic → Coefficients → (words left : List ℕ) → (low bits : ℕ) → Type 0
Answers k x words left low bits =
    ((b : ℕ) → b < x.n + x.m → bit low b ≡ among left b)
    × ((s t : Table) (p r : ℕ) → (h : LaidBelow k x p words s t r) → h.low ≡ low → r ≡ bits)

abbrev pub Holds : Example → Type 0
Holds (product k a b r) = (arithmetic_of k).mul a b ≡ r
Holds (quotient k a b r) = (arithmetic_of k).mul a ((arithmetic_of k).inv b) ≡ r
Holds (inverse k a r) = (arithmetic_of k).inv a ≡ r
Holds (lays k words checks) = Lays (arithmetic_of k) (powers (arithmetic_of k) (length words) (length checks)) words checks
Holds (writes k words j new checks) = Writes (arithmetic_of k) (powers (arithmetic_of k) (length words) (length checks)) words j new checks
Holds (reads k m words left j word c) = Reads (arithmetic_of k) (powers (arithmetic_of k) (length words) m) words left j word
Holds (mends k m words left b word c) = Mends (arithmetic_of k) (powers (arithmetic_of k) (length words) m) words left b word
Holds (tells k n m left j c) = TellsAll (arithmetic_of k) (powers (arithmetic_of k) n m) left j
Holds (loses k n m left j z) = LosesAll (arithmetic_of k) (powers (arithmetic_of k) n m) left j
Holds (answers k m words left low bits cs) = Answers (arithmetic_of k) (powers (arithmetic_of k) (length words) m) words left low bits

abbrev pub AllHold : List Example → Type 0
AllHold [] = Unit {0}
AllHold (e ∷ es) = Holds e × AllHold es

-- The examples of arrays are of places that there are: any words may stand at a place, and any of its cells may be left.
abbrev pub AllPossible : Type 0
AllPossible = (k : Name) (n m : ℕ) (words left : List ℕ) → Vector (arithmetic_of k) n words → Possible (arithmetic_of k) (powers (arithmetic_of k) n m) words left
