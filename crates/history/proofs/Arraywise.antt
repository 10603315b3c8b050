-- One call of an array, with a book that backs its cells: the law of the cells of the array is the law of the cells below.
use Rattle.std.proofs.Common.{◌≡◌, ℕ, ◌<◌, Some, None, Ok, Err, Option, Result, sym, refl, ap, subst, arith}
use Rattle.std.specs.Prelude.{vec_items}
use Rattle.field.specs.Arithmetic.{Arithmetic, Lawful}
use Rattle.plan.specs.Coefficients.{Coefficients}
use Rattle.shelf.specs.declared.refusal.Refusal.{Refusal}
use Rattle.shelf.specs.Table.{Table, SameShape, Unchanged, AllBlank}
use Rattle.shelf.specs.Calls.{refuses_read, refuses_word, refuses_lay}
use Rattle.shelf.proofs.Settling.{same_shape}
use Rattle.shelf.proofs.Words.{cell_fit, word_fit}
use Rattle.array.specs.declared.coded.Array.{Array}
use Rattle.array.specs.Decoding.{decoded, InOrder, AllowsOne, AllowsMore}
use Rattle.array.specs.Tables.{array_table, ArrayOrder, DoneBelow}
use Rattle.array.proofs.Meaning.{means, blank_in_order, new_blank}
use Rattle.array.proofs.Cells.{not_both}
use Rattle.history.specs.declared.call.Call.{Call}
use Rattle.history.specs.declared.call.Call.TheVariants.{Read, Write, Lay}
use Rattle.history.specs.declared.call.Answer.{Answer}
use Rattle.history.specs.Book.{Book, empty, enter}
use Rattle.history.specs.Laws.{Answered, Changed, RightRead, RightWrite, RightLay, Filled, Empty, ShelfLaw, ArrayLaw, ArrayChange}
use Rattle.history.specs.Turns.{TurnBelow, ArrayTurn}
use Rattle.history.specs.Runs.{Stands}
use Rattle.history.proofs.Sorting.{of_read, of_done, of_lay, read_also, done_also, lay_also}
use Rattle.history.proofs.Shelfwise.{shelf_step}

-- an answer that is right in one way, where it need be right, is right in another
answered_also : {A : Type 0} (o : Option Refusal) (r : Result A Refusal) (right also : Type 0) → (o ≡ None → right → also) → Answered o r right → Answered o r also
answered_also (Some e) r right also f h = h
answered_also None r right also f h = f refl h

module _ (k : Arithmetic) (l : Lawful k) (x : Coefficients) (s t : Table) (before : InOrder k x s) (after : InOrder k x t) (same : SameShape (decoded k x s) (decoded k x t)) (book : Book) where
  -- A word in a cell of the array is the one that the cells below allow, and where the cell is blank they allow more than one.
  read_below : (b p : ℕ) → (b < (decoded k x s).bays) × (p < (decoded k x s).places) → (r : Result ℕ Refusal) → RightRead (λ t. t) Filled Empty book (decoded k x s) b p r (decoded k x t) → RightRead (decoded k x) (AllowsOne k x) (AllowsMore k x) book s b p r t
  read_below b p (d, there) (Ok w) (entry, had) = (entry, ((means k l x s before).filled b p w d there).0 had)
  read_below b p (d, there) (Err e) (lost, empty) = (lost, ((means k l x t after).empty b p (let i = same.bays in omega arith) (let i = same.places in omega arith)).0 empty)

  write_below : (b p : ℕ) → (b < (decoded k x s).bays) × (p < (decoded k x s).places) → (r : Result Unit Refusal) → RightWrite (λ t. t) Filled Empty book (decoded k x s) b p r (decoded k x t) → RightWrite (decoded k x) (AllowsOne k x) (AllowsMore k x) book s b p r t
  write_below b p (d, there) (Ok u) (old, entry, had) = (old, entry, ((means k l x s before).filled b p old d there).0 had)
  write_below b p (d, there) (Err e) (lost, empty) = (lost, ((means k l x t after).empty b p (let i = same.bays in omega arith) (let i = same.places in omega arith)).0 empty)

  lay_below : (r : Result ℕ Refusal) → RightLay (λ t. t) Filled Empty r → RightLay (decoded k x) (AllowsOne k x) (AllowsMore k x) r
  lay_below (Ok bits) h = h
  lay_below (Err e) h = h

  law_below : (c : Call) (a : Answer) → ShelfLaw book (decoded k x s) c a (decoded k x t) → ArrayLaw k x book s c a t
  law_below (Read b p) a h =
      read_also _ _ a
      (λ r. answered_also (refuses_read b p (decoded k x s)) r _ _ (λ is. read_below b p (cell_fit (decoded k x s).bays (decoded k x s).places b p is) r)) h
  law_below (Write b p w) a h =
      done_also _ _ a
      (λ r. answered_also (refuses_word b p w (decoded k x s)) r _ _ (λ is.
      let (d, there, low) = word_fit (decoded k x s).bays (decoded k x s).places (decoded k x s).limit b p w is in write_below b p (d, there) r)) h
  law_below (Lay p ws) a h = lay_also _ _ a (λ r. answered_also (refuses_lay p (vec_items ws) (decoded k x s)) r _ _ (λ is. lay_below r)) h

-- a table beside itself
pub unchanged : (s : Table) → Unchanged s s
unchanged s = record { shape = same_shape s; cells = λ b p d there. refl; running = λ b d. refl }

module _ {S P : Type 0} (table : S → Table) (sound : S → Type 0) (k : Arithmetic) (l : Lawful k) (coefficients : P → Coefficients) (before after : Array S P) where
  -- A refused call changes nothing below, and another makes its change.
  made : (o : Option Refusal) (change : Type 0) → ArrayOrder table sound k coefficients before → DoneBelow o before after (ArrayOrder table sound k coefficients before → change) → Changed o (table before.below) (table after.below) change
  made (Some e) change ordered is = subst (λ (a : Array S P). Unchanged (table before.below) (table a.below)) (sym is) (unchanged (table before.below))
  made None change ordered h = h ordered

  turn_change : (c : Call) (a : Answer) → TurnBelow table sound k coefficients before after c a → ArrayOrder table sound k coefficients before → ArrayChange k (coefficients before.plan) c a (table before.below) (table after.below)
  turn_change (Read b p) a h ordered = read_also _ _ a (λ r beneath. made _ _ ordered beneath.1) h
  turn_change (Write b p w) a h ordered = done_also _ _ a (λ r beneath. made _ _ ordered beneath.1) h
  turn_change (Lay p ws) a h ordered = lay_also _ _ a (λ r beneath. made _ _ ordered beneath.1) h

  -- The plan stays.
  pub turn_plan : (c : Call) (a : Answer) → TurnBelow table sound k coefficients before after c a → after.plan ≡ before.plan
  turn_plan (Read b p) a h = let (r, is, beneath) = of_read _ a h in beneath.0
  turn_plan (Write b p w) a h = let (r, is, beneath) = of_done _ a h in beneath.0
  turn_plan (Lay p ws) a h = let (r, is, beneath) = of_lay _ a h in beneath.0

  abbrev x : Coefficients
  x = coefficients before.plan

  -- One call keeps the law of the cells below, makes its change, and leaves an array in order that the book then backs.
  pub array_step : (c : Call) (a : Answer) → ArrayTurn table sound k coefficients before after c a → (book : Book) → Stands (array_table table k coefficients) (ArrayOrder table sound k coefficients) book before
      → ArrayChange k x c a (table before.below) (table after.below) × ArrayLaw k x book (table before.below) c a (table after.below) × Stands (array_table table k coefficients) (ArrayOrder table sound k coefficients) (enter c a book) after
  array_step c a (turn, below) book stands =
      let t = table after.below in
      let plan = ap coefficients (turn_plan c a below) in
      let (same, law, change, ordered, backed) = shelf_step (array_table table k coefficients) (ArrayOrder table sound k coefficients) before after c a turn book stands in (
        turn_change c a below stands.0,
        law_below k l x (table before.below) t stands.0.1
            (subst (λ y. InOrder k y t) plan ordered.1)
            (subst (λ y. SameShape (decoded k x (table before.below)) (decoded k y t)) plan same)
            book c a
            (subst (λ y. ShelfLaw book (decoded k x (table before.below)) c a (decoded k y t)) plan law),
        (ordered, backed),
      )

-- The empty book backs a new array.
pub new_stands : {S P : Type 0} (table : S → Table) (sound : S → Type 0) (k : Arithmetic) (l : Lawful k) (coefficients : P → Coefficients) (a : Array S P) → sound a.below → AllBlank (table a.below) → Stands (array_table table k coefficients) (ArrayOrder table sound k coefficients) empty a
new_stands table sound k l coefficients a ordered blanks = (
  (ordered, blank_in_order k l (coefficients a.plan) (table a.below) blanks),
  λ b p w d there e. absurd (not_both _ w (new_blank k l (coefficients a.plan) (table a.below) blanks b p d there) e),
)
