-- How a word is found: in its cell below, or told by the other cells of the place.
use Rattle.std.specs.Prelude.{◌≡◌, ℕ, ◌<◌, ◌≤◌, true, ◌≢◌, List, [], ◌∷◌, ◌++◌, length, Ok, Err, Result}
use Rattle.std.specs.List.{Contains}
use Rattle.field.specs.Arithmetic.{Arithmetic}
use Rattle.plan.specs.Coefficients.{Coefficients}
use Rattle.plan.specs.Rows.{whole_row}
use Rattle.shelf.specs.declared.refusal.Refusal.{Refusal}
use Rattle.shelf.specs.declared.refusal.Refusal.TheVariants.{Lost}
use Rattle.shelf.specs.Table.{Table, holds, SameShape, Decayed}
use Rattle.shelf.specs.Calls.{NoCell}
use Rattle.linear.specs.declared.equation.Equation.{Equation}
use Rattle.array.specs.Decoding.{matched, Allows, AllowsMore}

-- the row of bay b with a word
abbrev pub bay_word : Coefficients → ℕ → ℕ → Equation
bay_word x b w = record { row = whole_row x b; word = w }

-- one equation more where the read of a bay gave a word
abbrev pub adding : Coefficients → ℕ → Result ℕ Refusal → List Equation → List Equation
adding x b (Ok w) es = es ++ bay_word x b w ∷ []
adding x b (Err e) es = es

-- What equations say of the cells of a place, but for one bay, after the first n bays were read: s is the table below before, t the
-- table below after. Each equation is of a cell that held its word, and each cell that is still filled has its equation.
pub record Gathered (x : Coefficients) (p without n : ℕ) (s t : Table) (es : List Equation) : Type 0 where
  pub rest : Decayed NoCell s t
  pub held : (e : Equation) → Contains es e → (b w : ℕ) × (b < n) × (s.cell b p ≡ holds w) × (e ≡ bay_word x b w)
  pub each : (b w : ℕ) → b < n → b ≢ without → t.cell b p ≡ holds w → Contains es (bay_word x b w)

-- the same between two states of a shelf, in order or not
abbrev pub Gathers : {Self : Type 0} → (Self → Table) → (Self → Type 0) → Coefficients → ℕ → ℕ → ℕ → Self → Self → List Equation → Type 0
Gathers table sound x p without n before after es =
    SameShape (table before) (table after) × (length es ≤ n)
    × (sound before → n ≤ (table before).bays → p < (table before).places → sound after × Gathered x p without n (table before) (table after) es)

-- A word is given only where the cells at the start allow no other for its bay, and it is lost only where those at the end allow more
-- than one, if they allow any.
abbrev pub WordAnswer : Arithmetic → Coefficients → ℕ → ℕ → Table → Table → Result ℕ Refusal → Type 0
WordAnswer k x b p s t (Ok w) = (u : ℕ) → Allows k x s b p u → u ≡ w
WordAnswer k x b p s t (Err e) = (e ≡ Lost) × ((u : ℕ) → Allows k x t b p u → AllowsMore k x t b p)

pub record Found (k : Arithmetic) (x : Coefficients) (b p : ℕ) (s t : Table) (r : Result ℕ Refusal) : Type 0 where
  pub rest : Decayed NoCell s t
  pub answer : WordAnswer k x b p s t r

-- The word of a bay's row, on a shelf that matches the plan; Known says what is known of the cell before.
abbrev pub Finds : {Self : Type 0} → (Self → Table) → (Self → Type 0) → Arithmetic → Coefficients → ℕ → ℕ → Self → Self → Type 0 → Result ℕ Refusal → Type 0
Finds table sound k x b p before after Known r =
    SameShape (table before) (table after)
    × (sound before → matched k x (table before) ≡ true → b < (table before).bays → p < (table before).places → Known →
    sound after × Found k x b p (table before) (table after) r)
