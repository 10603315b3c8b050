-- Equations over a field, and what they tell.
use Rattle.std.specs.Prelude.{◌≡◌, ℕ, ◌%◌, ◌<◌, Bool, not, ◌≢◌, ◌==◌, List, map, slice_index, Option, Some, None}
use Rattle.std.specs.List.{All, list_any, range_with_len}
use Rattle.field.specs.Arithmetic.{Arithmetic}
use Rattle.plan.specs.Bounds.{most_data}
use Rattle.plan.specs.Rows.{dot, Vector}
use Rattle.linear.specs.declared.equation.Equation.{Equation}

-- the code in a column of a row
abbrev pub column : Arithmetic → List ℕ → ℕ → ℕ
column k row j = slice_index row j % k.order

-- what the codes of a row give on a data vector
abbrev pub gives : Arithmetic → List ℕ → List ℕ → ℕ
gives k row v = dot k (map (column k row) (range_with_len 0 most_data)) v

-- The data vector satisfies the equation: its row gives its word.
abbrev pub Satisfies : Arithmetic → List ℕ → Equation → Type 0
Satisfies k v e = gives k e.row v ≡ e.word % k.order

-- The rows leave nothing of the target open: each data vector that gives zero on all of them gives zero on it too.
abbrev pub Covered : Arithmetic → List Equation → List ℕ → Type 0
Covered k es target = (z : List ℕ) → Vector k most_data z → All (λ e. gives k e.row z ≡ 0) es → gives k target z ≡ 0

-- The equations tell the target this word: each data vector that satisfies them all gives it, and their rows leave nothing of the target
-- open, also where no vector satisfies them.
abbrev pub Told : Arithmetic → List Equation → List ℕ → ℕ → Type 0
Told k es target w = (w < k.order) × ((v : List ℕ) → Vector k most_data v → All (Satisfies k v) es → gives k target v ≡ w) × Covered k es target

-- They do not: some data vector gives zero on every row and not on the target, so that adding it to a vector that satisfies them all
-- makes another one, with another word of the target.
abbrev pub Open : Arithmetic → List Equation → List ℕ → Type 0
Open k es target =
    (z : List ℕ) × Vector k most_data z × All (λ e. gives k e.row z ≡ 0) es × (gives k target z ≢ 0)

abbrev pub Verdict : Arithmetic → List Equation → List ℕ → Option ℕ → Type 0
Verdict k es target (Some w) = Told k es target w
Verdict k es target None = Open k es target

-- some data vector satisfies all of the equations
abbrev pub Satisfiable : Arithmetic → List Equation → Type 0
Satisfiable k es = (v : List ℕ) × Vector k most_data v × All (Satisfies k v) es

-- the code in a column of an equation
abbrev pub entry : Arithmetic → Equation → ℕ → ℕ
entry k e j = column k e.row j

-- whether the row has anything but zeros
abbrev pub has_row : Arithmetic → Equation → Bool
has_row k e = list_any (λ j. not (entry k e j == 0)) (range_with_len 0 most_data)

-- the product of two words, and x less such a product
abbrev pub scaled : Arithmetic → ℕ → ℕ → ℕ
scaled k by x = k.mul (by % k.order) (x % k.order)

abbrev pub lessened : Arithmetic → ℕ → ℕ → ℕ → ℕ
lessened k by y x = k.sub (x % k.order) (scaled k by y % k.order)

-- `by` times an equation
abbrev pub times : Arithmetic → ℕ → Equation → Equation
times k by e = record { row = map (λ j. scaled k by (slice_index e.row j)) (range_with_len 0 most_data); word = scaled k by e.word }

-- an equation less `by` times another
abbrev pub less : Arithmetic → ℕ → Equation → Equation → Equation
less k by o e =
    record { row = map (λ j. lessened k by (slice_index o.row j) (slice_index e.row j)) (range_with_len 0 most_data); word = lessened k by o.word e.word }

-- an equation less what it has in a column, where another has one
abbrev pub cleared : Arithmetic → ℕ → Equation → Equation → Equation
cleared k j o e = less k (slice_index e.row j) o e
