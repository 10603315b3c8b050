-- What the mends of a sweep answered, counted.
use Rattle.std.specs.Prelude.{◌≡◌, ℕ, ◌+◌, ◌^◌, ◌<◌, ◌==◌, List}
use Rattle.std.specs.List.{count_by}
use Rattle.account.specs.declared.tally.Tally.{Tally}

-- how many of the answers have this number
abbrev pub with_number : ℕ → List ℕ → ℕ
with_number n answers = count_by (λ a. a == n) answers

-- the sum of two counts, where it has 64 bits
abbrev pub IsSum : ℕ → ℕ → ℕ → Type 0
IsSum a b sum = a + b < 2 ^ 64 → sum ≡ a + b

-- The answers are counted on: 0 is a whole cell, 1 a mended one, 5 one that is lost, and 6 one whose bay is stopped.
pub record Counts (before : Tally) (answers : List ℕ) (after : Tally) : Type 0 where
  pub whole : IsSum before.whole (with_number 0 answers) after.whole
  pub mended : IsSum before.mended (with_number 1 answers) after.mended
  pub lost : IsSum before.lost (with_number 5 answers) after.lost
  pub stopped : IsSum before.stopped (with_number 6 answers) after.stopped
