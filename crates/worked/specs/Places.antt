-- A place of an array of which some cells below are left.
use Rattle.std.specs.Prelude.{◌≡◌, ℕ, ◌+◌, ◌<◌, Bool, true, ◌==◌, ◌≢◌, List, MatchBool}
use Rattle.std.specs.List.{list_any}
use Rattle.field.specs.Arithmetic.{Arithmetic}
use Rattle.plan.specs.Coefficients.{Coefficients}
use Rattle.shelf.specs.Table.{Table, blank}
use Rattle.array.specs.Decoding.{matched, Agrees}

-- whether a bay is one of a list
abbrev pub among : List ℕ → ℕ → Bool
among left b = list_any (λ c. b == c) left

-- Place p of an array over the table t has the words v, and the filled cells below are those of the bays left: all the others are blank.
pub record Stands (k : Arithmetic) (x : Coefficients) (t : Table) (p : ℕ) (v left : List ℕ) : Type 0 where
  pub matched : matched k x t ≡ true
  pub there : p < t.places
  pub agrees : Agrees k x t p v
  pub cells : (b : ℕ) → b < x.n + x.m → MatchBool (among left b) (t.cell b p ≢ blank) (t.cell b p ≡ blank)

-- Some table has such a place.
abbrev pub Possible : Arithmetic → Coefficients → (v left : List ℕ) → Type 0
Possible k x v left = (t : Table) × (p : ℕ) × Stands k x t p v left
