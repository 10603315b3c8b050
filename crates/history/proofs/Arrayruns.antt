-- A run on an array, whatever calls it has: Law and Change are those of its calls, by the coefficients of its plan.
use Rattle.std.proofs.Common.{◌≡◌, ℕ, ◌+◌, ◌<◌, ◌≤◌, List, length, get_or, set, ap, ◌∙◌, subst}
use Rattle.field.specs.Arithmetic.{Arithmetic, Lawful}
use Rattle.plan.specs.Coefficients.{Coefficients}
use Rattle.shelf.specs.Table.{Table, AllBlank}
use Rattle.array.specs.declared.coded.Array.{Array}
use Rattle.array.specs.Tables.{array_table, ArrayOrder}
use Rattle.history.specs.declared.call.Answer.{Answer}
use Rattle.history.specs.Book.{Book, empty, after_calls}
use Rattle.history.specs.History.{History}
use Rattle.history.specs.Runs.{Stands}
use Rattle.history.proofs.Arraywise.{new_stands}
use Rattle.history.proofs.Chains.{RunSoFar, run_more, run_all}

module _ {C S P : Type 0} (table : S → Table) (sound : S → Type 0) (k : Arithmetic) (coefficients : P → Coefficients)
    (feed : C → Answer → Book → Book) (Law : Coefficients → Book → Table → C → Answer → Table → Type 0) (Change : Coefficients → C → Answer → Table → Table → Type 0) where
  abbrev Stand : Array S P → Book → Type 0
  Stand a book = Stands (array_table table k coefficients) (ArrayOrder table sound k coefficients) book a

  -- what one call comes to
  abbrev pub Steps : Array S P → Array S P → C → Answer → Type 0
  Steps now next c a =
      (next.plan ≡ now.plan)
      × ((book : Book) → Stand now book →
      Change (coefficients now.plan) c a (table now.below) (table next.below) × Law (coefficients now.plan) book (table now.below) c a (table next.below) × Stand next (feed c a book))

  module _ (before : Array S P) (calls : List C) where
    abbrev x : Coefficients
    x = coefficients before.plan

    -- the first i calls of the run
    abbrev pub ArraySoFar : Array S P → ℕ → List Answer → Type 0
    ArraySoFar now i answers =
        (now.plan ≡ before.plan) × RunSoFar feed (λ (a : Array S P). table a.below) (Law x) (Change x) (λ book. Stand before book) (λ book. Stand now book) before now i calls answers

    -- one call more
    pub array_more : (now next : Array S P) (i : ℕ) (answers : List Answer) (c : C) (a : Answer) → i < length calls → get_or calls i c ≡ c → ArraySoFar now i answers → Steps now next c a → ArraySoFar next (i + 1) (set answers i a)
    array_more now next i answers c a few at (plan, so_far) (stays, step) = (
      stays ∙ plan,
      run_more feed (λ (a : Array S P). table a.below) (Law x) (Change x) (λ book. Stand before book) before calls (λ book. Stand now book) (λ book. Stand next book) now next i answers c a few at so_far
          (subst (λ y. (book : Book) → Stand now book → Change y c a (table now.below) (table next.below) × Law y book (table now.below) c a (table next.below) × Stand next (feed c a book)) (ap coefficients plan) step),
    )

    -- all of them
    pub array_all : (now : Array S P) (i : ℕ) (answers : List Answer) → length calls ≤ i → ArraySoFar now i answers
        → (now.plan ≡ before.plan) × ((book : Book) → Stand before book → History feed (λ (a : Array S P). table a.below) (Law x) (Change x) book before calls answers now × Stand now (after_calls feed book calls answers))
    array_all now i answers all (plan, so_far) =
        (plan, run_all feed (λ (a : Array S P). table a.below) (Law x) (Change x) (λ book. Stand before book) before calls (λ book. Stand now book) now i answers all so_far)

    -- and from a new array
    pub array_new : Lawful k → (now : Array S P) (i : ℕ) (answers : List Answer) → length calls ≤ i → ArraySoFar now i answers → sound before.below → AllBlank (table before.below)
        → History feed (λ (a : Array S P). table a.below) (Law x) (Change x) empty before calls answers now
    array_new l now i answers all so_far ordered blanks = ((array_all now i answers all so_far).1 empty (new_stands table sound k l coefficients before ordered blanks)).0
