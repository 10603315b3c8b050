-- The row of each bay, and what a row gives on a data vector.
use Rattle.std.specs.Prelude.{◌≡◌, ℕ, suc, ◌+◌, ◌-◌, ◌%◌, ◌<◌, Bool, true, cond, List, [], ◌∷◌, map, length, ◌==◌, nat_lt, slice_index, slice_set}
use Rattle.std.specs.List.{range_with_len}
use Rattle.field.specs.Arithmetic.{Arithmetic}
use Rattle.plan.specs.Bounds.{most_data}
use Rattle.plan.specs.Coefficients.{Coefficients}

-- column j of the row of bay b: one in its own column for a data bay, the coefficient for a check bay
unfoldable pub entry : Coefficients → ℕ → ℕ → ℕ
entry x b j = cond (nat_lt b x.n) (cond (b == j) 1 0) (x.f (b - x.n) j)

unfoldable pub row : Coefficients → ℕ → List ℕ
unfolding entry
row x b = map (entry x b) (range_with_len 0 x.n)

-- the row of a bay with zeros after the last data bay, up to the most
abbrev pub whole_row : Coefficients → ℕ → List ℕ
whole_row x b = map (entry x b) (range_with_len 0 most_data)

-- the field sum of the products, column by column; it stops at the shorter list
unfoldable pub dot : Arithmetic → List ℕ → List ℕ → ℕ
dot k [] vs = 0
dot k (c ∷ cs) [] = 0
dot k (c ∷ cs) (v ∷ vs) = k.add (k.mul c v) (dot k cs vs)

-- a data vector: n codes below the order
pub record Vector (k : Arithmetic) (n : ℕ) (v : List ℕ) : Type 0 where
  pub long : length v ≡ n
  pub below : (j : ℕ) → j < n → slice_index v j < k.order

-- A set of bays tells a row: every data vector on which all rows of the set give zero gives zero on that row too.
abbrev pub Tells : Arithmetic → Coefficients → (ℕ → Bool) → ℕ → Type 0
Tells k x set r =
    (v : List ℕ) → Vector k x.n v → ((b : ℕ) → b < x.n + x.m → set b ≡ true → dot k (row x b) v ≡ 0) → dot k (row x r) v ≡ 0

-- the codes that the words count as
abbrev pub codes : Arithmetic → List ℕ → List ℕ
codes k ws = map (λ w. w % k.order) ws

-- the word of check i on a data vector
abbrev pub check_on : Arithmetic → Coefficients → ℕ → List ℕ → ℕ
check_on k x i v = dot k (row x (x.n + i)) v

-- the word of each check on a data vector
unfoldable pub checks_on : Arithmetic → Coefficients → List ℕ → List ℕ
unfolding row entry dot
checks_on k x v = map (λ i. check_on k x i v) (range_with_len 0 x.m)

-- Check i, moved from the old word of data bay j to the new one.
abbrev pub moved : Arithmetic → Coefficients → ℕ → ℕ → ℕ → ℕ → ℕ → ℕ
moved k x i j check old new = k.add check (k.mul (x.f i j) (k.sub new old))

-- On every vector with the old word in column j, r is the check on the vector with the new word there:
-- no check has to be computed afresh.
abbrev pub Follows : Arithmetic → Coefficients → ℕ → ℕ → ℕ → ℕ → ℕ → ℕ → Type 0
Follows k x i j check old new r =
    (v : List ℕ) → Vector k x.n v → j < x.n → slice_index v j ≡ old → check_on k x i v ≡ check → check_on k x i (slice_set v j new) ≡ r

-- The checks from number i on, each moved.
abbrev pub all_moved : Arithmetic → Coefficients → ℕ → ℕ → ℕ → ℕ → List ℕ → List ℕ
all_moved k x i j old new [] = []
all_moved k x i j old new (c ∷ cs) = moved k x i j c old new ∷ all_moved k x (suc i) j old new cs
