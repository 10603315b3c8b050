-- Which rows of a plan a set of its bays tells.
use Rattle.std.specs.Prelude.{ℕ, ◌+◌, ◌<◌, Bool, not, ◌==◌, List, map, filter, MatchBool}
use Rattle.std.specs.List.{list_any, range_with_len}
use Rattle.field.specs.Arithmetic.{Arithmetic}
use Rattle.plan.specs.Coefficients.{Coefficients}
use Rattle.plan.specs.Rows.{whole_row, Tells}
use Rattle.shelf.specs.Calls.{bit}
use Rattle.linear.specs.declared.equation.Equation.{Equation}

-- the row of a bay, with no word
abbrev pub bay_equation : Coefficients → ℕ → Equation
bay_equation x b = record { row = whole_row x b; word = 0 }

-- the rows of the bays of the set, of the first n
abbrev pub rows_of : Coefficients → (ℕ → Bool) → ℕ → List Equation
rows_of x set n = map (bay_equation x) (filter set (range_with_len 0 n))

-- A bit is set just where the set tells the row of its bay.
abbrev pub TellsJust : Arithmetic → Coefficients → (ℕ → Bool) → ℕ → Type 0
TellsJust k x set bits = (b : ℕ) → b < x.n + x.m → MatchBool (bit bits b) (Tells k x set b) (Tells k x set b → ⊥)

-- the bays that are not on a list
abbrev pub left : List ℕ → ℕ → Bool
left lost b = not (list_any (λ other. other == b) lost)
