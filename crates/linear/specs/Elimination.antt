-- What elimination does to equations.
use Rattle.std.specs.Prelude.{◌≡◌, ℕ, suc, ◌%◌, ◌<◌, ◌≢◌, ⊤, List, [], ◌∷◌, map, length, slice_index_or, Option, Some, None}
use Rattle.std.specs.List.{All, fold, remove, range_with_len}
use Rattle.std.specs.Array.{IsElementAt}
use Rattle.field.specs.Arithmetic.{Arithmetic}
use Rattle.plan.specs.Bounds.{most_data}
use Rattle.plan.specs.Rows.{dot, Vector}
use Rattle.linear.specs.Equations.{entry, times, cleared}
use Rattle.linear.specs.declared.equation.Equation.{Equation}
use Rattle.linear.specs.declared.pivot.Pivot.{Pivot}

-- what an equation gives on a vector whose first entry is for the word
abbrev pub value : Arithmetic → List ℕ → Equation → ℕ
value k u e = dot k (e.word % k.order ∷ map (entry k e) (range_with_len 0 most_data)) u

-- nothing in the column
abbrev pub Zero : Arithmetic → ℕ → Equation → Type 0
Zero k j e = entry k e j ≡ 0

-- none of the first n equations has anything in the column
abbrev pub ZeroBefore : Arithmetic → ℕ → List Equation → ℕ → Type 0
ZeroBefore k j es n = (i : ℕ) (d : Equation) → i < n → Zero k j (slice_index_or es i d)

-- the first equation with anything in the column
abbrev pub FirstWith : Arithmetic → ℕ → List Equation → Option ℕ → Type 0
FirstWith k j es (Some n) = (n < length es) × ((d : Equation) → entry k (slice_index_or es n d) j ≢ 0) × ZeroBefore k j es n
FirstWith k j es None = ZeroBefore k j es (length es)

-- The first equation with anything in the column is taken, and is the pivot.
abbrev pub TakesPivot : Arithmetic → ℕ → List Equation → List Equation → Option Pivot → Type 0
TakesPivot k j old new (Some p) =
    (n : ℕ) × (e : Equation) × (n < length old) × IsElementAt old n e × (entry k e j ≢ 0) × ZeroBefore k j old n × (new ≡ remove old n) × (p.column ≡ j) × (p.equation ≡ times k (k.inv (entry k e j)) e)
TakesPivot k j old new None = ZeroBefore k j old (length old) × (new ≡ old)

-- what is left of an equation once the columns of the pivots are cleared in it, one after the other
abbrev pub reduced : Arithmetic → List Pivot → Equation → Equation
reduced k ps e = fold (λ rest p. cleared k p.column p.equation rest) e ps

-- each pivot has one in its column, and the later ones have zero there
abbrev pub Echelon : Arithmetic → List Pivot → Type 0
Echelon k [] = ⊤
Echelon k (p ∷ ps) = (entry k p.equation p.column ≡ 1) × All (λ q. Zero k p.column q.equation) ps × Echelon k ps

-- the vector gives zero on all of the equations, or of the pivots
abbrev pub Vanishes : Arithmetic → List ℕ → List Equation → Type 0
Vanishes k u es = All (λ e. value k u e ≡ 0) es

abbrev pub VanishesOnPivots : Arithmetic → List ℕ → List Pivot → Type 0
VanishesOnPivots k u ps = All (λ p. value k u p.equation ≡ 0) ps

-- The pivots and the rest say what the equations said: a vector gives zero on the ones just where it gives zero on the others. Of the
-- rest only words are left.
pub record Eliminated (k : Arithmetic) (es rest : List Equation) (ps : List Pivot) : Type 0 where
  pub onward : (u : List ℕ) → Vector k (suc most_data) u → Vanishes k u es → VanishesOnPivots k u ps × Vanishes k u rest
  pub back : (u : List ℕ) → Vector k (suc most_data) u → VanishesOnPivots k u ps → Vanishes k u rest → Vanishes k u es
  pub echelon : Echelon k ps
  pub rowless : (j : ℕ) → j < most_data → All (Zero k j) rest
