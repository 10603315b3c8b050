-- The range of the numbers of a description that the program holds.
use Rattle.std.specs.Prelude.{ℕ, ◌<◌, ◌^◌, List}
use Rattle.std.specs.List.{AllByRecursion}
use Rattle.description.specs.Describing.{Planned, powers, groups, written}

-- a number that fits 32 bits
abbrev pub IsSmall : ℕ → Type 0
IsSmall n = n < 2 ^ 32

-- so do the codes of each row
abbrev pub AreSmall : List (List ℕ) → Type 0
AreSmall rows = AllByRecursion (AllByRecursion IsSmall) rows

-- and the codes of a written plan
abbrev pub HasSmallCodes : Planned → Type 0
HasSmallCodes powers = Unit {0}
HasSmallCodes groups = Unit {0}
HasSmallCodes (written rows) = AreSmall rows
