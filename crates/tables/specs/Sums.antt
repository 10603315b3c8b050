-- Sums of numbers that may not be told.
use Rattle.std.specs.Prelude.{ℕ, ◌+◌, ◌^◌, ◌<◌, ◌≤◌, cond, List, [], ◌∷◌, length, map, sum, Some, None, Option, nat_lt, All}
use Rattle.std.specs.Option.{option_map, option_and_then, SomeIff}
use Rattle.tables.specs.declared.cell.Cell.{Cell}
use Rattle.tables.specs.Cells.{told, IsTold, word}

-- a number of 64 bits
abbrev pub fitting : ℕ → Option ℕ
fitting n = cond (nat_lt n (2 ^ 64)) (Some n) None

-- the sum of two numbers, where both are told and it has 64 bits
abbrev pub plus : Option ℕ → Option ℕ → Option ℕ
plus a b = option_and_then (λ m. option_and_then (λ n. fitting (m + n)) b) a

-- the numbers, where all are told
abbrev pub all_told : List (Option ℕ) → Option (List ℕ)
all_told [] = Some []
all_told (o ∷ os) = option_and_then (λ n. option_map (λ ns. n ∷ ns) (all_told os)) o

-- their sum, where all are told and it has 64 bits
abbrev pub sum_of : List (Option ℕ) → Option ℕ
sum_of os = option_and_then (λ ns. fitting (sum ns)) (all_told os)

-- the sum of the words, where all cells are told and it has 64 bits
abbrev pub total : List Cell → Option ℕ
total cells = sum_of (map told cells)

-- There is a total just where all cells are told and their words' sum has 64 bits, and it is that sum. Up to 2^32 words have such a sum.
pub record IsTotal (cells : List Cell) (r : Option ℕ) : Type 0 where
  pub sum_told : SomeIff r (All IsTold cells × (sum (map word cells) < 2 ^ 64)) (sum (map word cells))
  pub fits : length cells ≤ 2 ^ 32 → sum (map word cells) < 2 ^ 64
