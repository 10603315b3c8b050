-- What a write does to the cells of its place below.
use Rattle.std.specs.Prelude.{◌≡◌, ℕ, ◌+◌, ◌-◌, ◌<◌, true, cond, ◌==◌, nat_lt}
use Rattle.field.specs.Arithmetic.{Arithmetic}
use Rattle.plan.specs.Coefficients.{Coefficients}
use Rattle.plan.specs.Rows.{moved}
use Rattle.shelf.specs.Table.{Table, Cell, blank, holds, SameShape, Decayed, WordBelow}
use Rattle.shelf.specs.Calls.{Set, ThisCell, ThisPlace}
use Rattle.array.specs.Decoding.{matched}

-- A blank cell stays blank; a filled one then holds f of its word, or went blank.
abbrev pub Becomes : (ℕ → ℕ) → Cell → Cell → Type 0
Becomes f blank after = after ≡ blank
Becomes f (holds w) after = Set (f w) after

-- The word of bay b below, where the word of data bay j goes from old to new: data bay j has the new word, every other data bay its
-- own, and check i moves by its coefficient times the difference.
abbrev pub rewritten : Arithmetic → Coefficients → ℕ → ℕ → ℕ → ℕ → ℕ → ℕ
rewritten k x j old new b w = cond (nat_lt b x.n) (cond (b == j) new w) (moved k x (b - x.n) j w old new)

-- s is the table below before, t the table below after
pub record Rewritten (k : Arithmetic) (x : Coefficients) (j p old new : ℕ) (s t : Table) : Type 0 where
  pub rest : Decayed (ThisPlace p) s t
  pub cells : (b : ℕ) → b < x.n + x.m → Becomes (rewritten k x j old new b) (s.cell b p) (t.cell b p)

-- every cell of the place is blank or holds a code
abbrev pub Codes : Arithmetic → Coefficients → ℕ → Table → Type 0
Codes k x p s = (b : ℕ) → b < x.n + x.m → WordBelow k.order (s.cell b p)

-- Moving check i, and rewriting a place, from states in order of a shelf that matches the plan.
abbrev pub MovesCheck : {Self : Type 0} → (Self → Table) → (Self → Type 0) → Arithmetic → Coefficients → ℕ → ℕ → ℕ → ℕ → ℕ → Self → Self → Type 0
MovesCheck table sound k x i j p old new before after =
    SameShape (table before) (table after)
    × (sound before → matched k x (table before) ≡ true → i < x.m → p < (table before).places → old < k.order → new < k.order → WordBelow k.order ((table before).cell (x.n + i) p) →
    sound after × Decayed (ThisCell (x.n + i) p) (table before) (table after)
    × Becomes (rewritten k x j old new (x.n + i)) ((table before).cell (x.n + i) p) ((table after).cell (x.n + i) p))

abbrev pub Rewrites : {Self : Type 0} → (Self → Table) → (Self → Type 0) → Arithmetic → Coefficients → ℕ → ℕ → ℕ → ℕ → Self → Self → Type 0
Rewrites table sound k x j p old new before after =
    SameShape (table before) (table after)
    × (sound before → matched k x (table before) ≡ true → j < x.n → p < (table before).places → old < k.order → new < k.order → Codes k x p (table before) →
    sound after × Rewritten k x j p old new (table before) (table after))
