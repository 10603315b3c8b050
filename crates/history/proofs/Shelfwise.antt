-- One call of a shelf, with a book that backs its cells: s and t are the tables before and after it.
use Rattle.std.proofs.Common.{◌≡◌, ℕ, ◌<◌, ◌⊎◌, List, Some, None, Ok, Err, Option, Result, sym, refl, ap, subst, ⊎_elim}
use Rattle.std.specs.Prelude.{vec_items}
use Rattle.std.proofs.lemmas.Bool.{cond-false}
use Rattle.shelf.specs.declared.refusal.Refusal.{Refusal}
use Rattle.shelf.specs.declared.refusal.Refusal.TheVariants.{Lost}
use Rattle.shelf.specs.Table.{Table, Cell, blank, holds, SameShape}
use Rattle.shelf.specs.Calls.{Settled, Outcome, ReadAnswer, WriteAnswer, Written, LayAnswer, refuses_read, refuses_word, refuses_lay}
use Rattle.shelf.specs.Calls.{Read as Reads}
use Rattle.shelf.proofs.Words.{cell_fit, word_fit, lay_fit}
use Rattle.array.proofs.Cells.{not_both, same_word}
use Rattle.history.specs.declared.call.Call.{Call}
use Rattle.history.specs.declared.call.Call.TheVariants.{Read, Write, Lay}
use Rattle.history.specs.declared.call.Answer.{Answer}
use Rattle.history.specs.Book.{Book, put, is_lost, after_write, after_lay, enter}
use Rattle.history.specs.Laws.{Answered, Changed, RightRead, RightWrite, RightLay, Filled, Empty, ShelfLaw, ShelfChange}
use Rattle.history.specs.Turns.{ShelfTurn}
use Rattle.history.specs.Runs.{Backed, Stands}
use Rattle.history.proofs.Sorting.{of_read, of_done, of_lay}
use Rattle.history.proofs.Backing.{backed_decayed, backed_unchanged, backed_put, backed_laid, word_not_lost}

module _ (book : Book) (s t : Table) (P Q : Type 0) (sound : P) (backed : Backed book s) where
  module _ (b p : ℕ) where
    -- The word of a filled cell is in the book.
    right_read : (b < s.bays) × (p < s.places) → (r : Result ℕ Refusal) → ReadAnswer (s.cell b p) (t.cell b p) r → RightRead (λ t. t) Filled Empty book s b p r t
    right_read (d, there) (Ok w) h = (backed b p w d there h, h)
    right_read (d, there) (Err e) h = h

    read_step : (o : Option Refusal) → refuses_read b p s ≡ o → (r : Result ℕ Refusal) → Settled s t P Q o (Reads b p) r
        → Answered o r (RightRead (λ t. t) Filled Empty book s b p r t) × Changed o s t (Reads b p s t r) × Q × Backed book t
    read_step (Some e) is r (answer, same, stays) = (answer, same, stays sound, backed_unchanged book s t backed same)
    read_step None is r settled =
        let (after, read) = settled sound in
        (right_read (cell_fit s.bays s.places b p is) r read.answer, read, after, backed_decayed book s t backed read.rest)

    module _ (w : ℕ) where
      -- A lost write leaves its cell blank, and the book without its word.
      lost_write : (r : Result Unit Refusal) → r ≡ Err Lost → Written b p w s t r → t.cell b p ≡ blank → RightWrite (λ t. t) Filled Empty book s b p r t × Backed (after_write b p w r book) t
      lost_write r is wrote empty =
          subst (λ r. RightWrite (λ t. t) Filled Empty book s b p r t × Backed (after_write b p w r book) t) (sym is)
          ((refl, empty), backed_put book s t backed b p None wrote.rest (λ v e. absurd (not_both (t.cell b p) v empty e)))

      -- A kept one had the old word, and leaves the new one, or none.
      kept_write : (old : ℕ) → book b p ≡ Some old → s.cell b p ≡ holds old → (r : Result Unit Refusal) → r ≡ Ok tt → Written b p w s t r → (t.cell b p ≡ holds w) ⊎ (t.cell b p ≡ blank) → RightWrite (λ t. t) Filled Empty book s b p r t × Backed (after_write b p w r book) t
      kept_write old entry had r is wrote set =
          subst (λ r. RightWrite (λ t. t) Filled Empty book s b p r t × Backed (after_write b p w r book) t) (sym is) (
            (old, entry, had),
            backed_put book s t backed b p (Some w) wrote.rest (λ v e.
                ⊎_elim (λ now. ap Some (same_word (t.cell b p) w v now e)) (λ empty. absurd (not_both (t.cell b p) v empty e)) set),
          )

      wrote : (b < s.bays) × (p < s.places) → (r : Result Unit Refusal) → Written b p w s t r → (c : Cell) → s.cell b p ≡ c → WriteAnswer w c (t.cell b p) r → RightWrite (λ t. t) Filled Empty book s b p r t × Backed (after_write b p w r book) t
      wrote there r h blank is (lost, empty) = lost_write r lost h empty
      wrote there r h (holds old) is (set, answer) =
          ⊎_elim
          (λ done. kept_write old (backed b p old there.0 there.1 is) is r done h set)
          (λ (lost, empty). lost_write r lost h empty) answer

      write_step : (o : Option Refusal) → refuses_word b p w s ≡ o → (r : Result Unit Refusal) → Settled s t P Q o (Written b p w) r
          → Answered o r (RightWrite (λ t. t) Filled Empty book s b p r t) × Changed o s t (Written b p w s t r) × Q × Backed (after_write b p w r book) t
      write_step (Some e) is r (answer, same, stays) = (
        answer,
        same,
        stays sound,
        subst (λ r. Backed (after_write b p w r book) t) (sym answer)
            (subst (λ book. Backed book t) (sym (cond-false (is_lost e) (put b p None book) book (word_not_lost s.bays s.places s.limit b p w e is))) (backed_unchanged book s t backed same)),
      )
      write_step None is r settled =
          let (after, h) = settled sound in
          let (d, there, low) = word_fit s.bays s.places s.limit b p w is in
          let (right, entered) = wrote (d, there) r h (s.cell b p) refl h.answer in
          (right, h, after, entered)

  module _ (p : ℕ) (ws : List ℕ) where
    lay_step : (o : Option Refusal) → refuses_lay p ws s ≡ o → (r : Result ℕ Refusal) → Settled s t P Q o (LayAnswer p ws) r
        → Answered o r (RightLay (λ t. t) Filled Empty r) × Changed o s t (LayAnswer p ws s t r) × Q × Backed (after_lay p ws r book) t
    lay_step (Some e) is r (answer, same, stays) =
        (answer, same, stays sound, subst (λ r. Backed (after_lay p ws r book) t) (sym answer) (backed_unchanged book s t backed same))
    lay_step None is (Ok bits) settled =
        let (after, laid) = settled sound in
        (tt, laid, after, backed_laid book s t backed p ws bits (lay_fit s.bays s.places s.limit p ws is).count laid)
    lay_step None is (Err e) settled = absurd (settled sound).1

-- What a call comes to: it keeps the law, makes its change, and leaves a state in order that the book then backs.
abbrev pub Comes : {Self : Type 0} → (Self → Table) → (Self → Type 0) → Self → Self → Book → Call → Answer → Type 0
Comes table sound before after book c a =
    SameShape (table before) (table after) × ShelfLaw book (table before) c a (table after) × ShelfChange c a (table before) (table after) × sound after
    × Backed (enter c a book) (table after)

pub shelf_step : {Self : Type 0} (table : Self → Table) (sound : Self → Type 0) (before after : Self) (c : Call) (a : Answer) → ShelfTurn table sound before after c a → (book : Book) → Stands table sound book before
    → Comes table sound before after book c a
shelf_step table sound before after (Read b p) a turn book (ordered, backed) =
    let (r, is, (same, settled)) = of_read (Outcome table sound before after (refuses_read b p) (Reads b p)) a turn in
    let (law, change, still, entered) = read_step book (table before) (table after) (sound before) (sound after) ordered backed b p (refuses_read b p (table before)) refl r settled in
    subst (Comes table sound before after book (Read b p)) (sym is) (same, law, change, still, entered)
shelf_step table sound before after (Write b p w) a turn book (ordered, backed) =
    let (r, is, (same, settled)) = of_done (Outcome table sound before after (refuses_word b p w) (Written b p w)) a turn in
    let (law, change, still, entered) = write_step book (table before) (table after) (sound before) (sound after) ordered backed b p w (refuses_word b p w (table before)) refl r settled in
    subst (Comes table sound before after book (Write b p w)) (sym is) (same, law, change, still, entered)
shelf_step table sound before after (Lay p ws) a turn book (ordered, backed) =
    let (r, is, (same, settled)) = of_lay (Outcome table sound before after (refuses_lay p (vec_items ws)) (LayAnswer p (vec_items ws))) a turn in
    let (law, change, still, entered) = lay_step book (table before) (table after) (sound before) (sound after) ordered backed p (vec_items ws) (refuses_lay p (vec_items ws) (table before)) refl r settled in
    subst (Comes table sound before after book (Lay p ws)) (sym is) (same, law, change, still, entered)
