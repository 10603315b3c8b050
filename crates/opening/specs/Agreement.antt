-- The test whether some vector agrees with a place: s is the table below before, t the table below after.
use Rattle.std.specs.Prelude.{◌≡◌, ℕ, ◌+◌, ◌<◌, Bool, MatchBool, ⊤, List, Ok, Err, Option, Result}
use Rattle.field.specs.Arithmetic.{Arithmetic}
use Rattle.plan.specs.Coefficients.{Coefficients}
use Rattle.shelf.specs.declared.refusal.Refusal.{Refusal}
use Rattle.shelf.specs.Refusals.{place_refusal}
use Rattle.shelf.specs.Table.{Table, Decayed}
use Rattle.shelf.specs.Calls.{NoCell}
use Rattle.array.specs.Decoding.{decoded, Agrees}

-- some vector agrees with the place
abbrev pub Agreed : Arithmetic → Coefficients → Table → ℕ → Type 0
Agreed k x t p = (v : List ℕ) × Agrees k x t p v

-- The test is refused where the array has no such place; an array that doesn't fit the shelf below has none.
abbrev pub refuses_test : Arithmetic → Coefficients → ℕ → Table → Option Refusal
refuses_test k x p s = place_refusal (decoded k x s).places p

-- Yes: some vector agrees at the end. No: none agreed at the start.
abbrev pub TestAnswer : Arithmetic → Coefficients → ℕ → Table → Table → Result Bool Refusal → Type 0
TestAnswer k x p s t (Ok answer) = MatchBool answer (Agreed k x t p) (Agreed k x s p → ⊥)
TestAnswer k x p s t (Err e) = ⊥

-- The test changes no word.
pub record Tested (k : Arithmetic) (x : Coefficients) (p : ℕ) (s t : Table) (r : Result Bool Refusal) : Type 0 where
  pub rest : Decayed NoCell s t
  pub answer : TestAnswer k x p s t r

-- So where no cell of the place went blank meanwhile, yes is answered just where some vector agrees.
abbrev pub TestsExactly : {Self : Type 0} → (Self → Table) → (Self → Type 0) → Arithmetic → Coefficients → ℕ → Self → Self → Result Bool Refusal → Type 0
TestsExactly table sound k x p before after (Ok answer) =
    sound before → ((b : ℕ) → b < x.n + x.m → (table after).cell b p ≡ (table before).cell b p)
    → MatchBool answer (Agreed k x (table before) p) (Agreed k x (table before) p → ⊥)
TestsExactly table sound k x p before after (Err e) = ⊤
