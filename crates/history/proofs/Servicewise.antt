-- One call of an array that is serviced, with a book that backs its cells.
use Rattle.std.proofs.Common.{◌≡◌, ℕ, ◌+◌, ◌<◌, List, Some, None, Ok, Err, Option, Result, sym, refl, ap, ◌∙◌, subst, inl, inr, ⊎_elim, arith}
use Rattle.field.specs.Arithmetic.{Arithmetic, Lawful}
use Rattle.plan.specs.Coefficients.{Coefficients}
use Rattle.plan.specs.Rows.{row, dot}
use Rattle.shelf.specs.declared.refusal.Refusal.{Refusal}
use Rattle.shelf.specs.Table.{Table, Unchanged}
use Rattle.shelf.proofs.Words.{cell_fit}
use Rattle.array.specs.declared.coded.Array.{Array}
use Rattle.array.specs.declared.mending.Mending.{Mending}
use Rattle.array.specs.declared.mending.Mending.TheVariants.{Whole, Patched}
use Rattle.array.specs.Decoding.{matched, Gives, Agrees, decoded, InOrder}
use Rattle.array.specs.Tables.{array_table, ArrayOrder}
use Rattle.array.specs.Service.{refuses_mend, refuses_fresh, MendAnswer, Mends, Freshens, ServedWhen, Serves}
use Rattle.array.proofs.Shapes.{array_shape, fit_places, matched_bays}
use Rattle.array.proofs.Serving.{below_cond}
use Rattle.history.specs.declared.call.Service.{Service}
use Rattle.history.specs.declared.call.Service.TheVariants.{Plain, Mend, Exchange}
use Rattle.history.specs.declared.call.Answer.{Answer}
use Rattle.history.specs.Book.{Book, enter_service}
use Rattle.history.specs.Laws.{Answered, Changed, RightMend, ServiceLaw, ServiceChange}
use Rattle.history.specs.Turns.{ServiceTurn}
use Rattle.history.specs.Runs.{Backed, Stands}
use Rattle.history.proofs.Sorting.{of_mend, of_done}
use Rattle.history.proofs.Backing.{backed_decayed, backed_kept_all}
use Rattle.history.proofs.Arraywise.{unchanged, array_step, turn_plan}

module _ (k : Arithmetic) (x : Coefficients) (s t : Table) where
  -- A cell that held its word allows no other value, and a patched one had one that was allowed alone.
  right_mend : (b p : ℕ) (v : List ℕ) → Agrees k x s p v → b < x.n + x.m → (r : Result Mending Refusal) → MendAnswer k x b p s t r → RightMend k x s b p r t
  right_mend b p v h few (Ok Whole) ((w, had), kept) = (
    w,
    (
      (v, h, sym (let gave : w ≡ dot k (row x b) v = subst (Gives k x b v) had (h.gives b few) in gave)),
      λ u (z, hz, is). sym is ∙ sym (let gave : w ≡ dot k (row x b) z = subst (Gives k x b z) had (hz.gives b few) in gave),
    ),
  )
  right_mend b p v h few (Ok Patched) (w, one, set, filled) = (w, one)
  right_mend b p v h few (Err e) answer = ⊎_elim (λ (lost, more, kept). inl (lost, more)) (λ stopped. inr stopped) answer

-- An answer that is right where there is no refusal is answered so.
answered_when : {A : Type 0} (o : Option Refusal) (r : Result A Refusal) (right : Type 0) → Answered o r (o ≡ None → right) → Answered o r right
answered_when (Some e) r right h = h
answered_when None r right h = h refl

module _ {S P : Type 0} (table : S → Table) (sound : S → Type 0) (k : Arithmetic) (l : Lawful k) (coefficients : P → Coefficients) (before after : Array S P) where
  abbrev x : Coefficients
  x = coefficients before.plan

  abbrev s : Table
  s = table before.below

  abbrev t : Table
  t = table after.below

  abbrev Ordered : Array S P → Type 0
  Ordered a = ArrayOrder table sound k coefficients a

  abbrev ArrayStands : Book → Array S P → Type 0
  ArrayStands book a = Stands (array_table table k coefficients) (ArrayOrder table sound k coefficients) book a

  -- the plan stays
  pub service_plan : (c : Service) (a : Answer) → ServiceTurn table sound k coefficients before after c a → after.plan ≡ before.plan
  service_plan (Plain c) a h = turn_plan table sound k l coefficients before after c a h.1
  service_plan (Mend b p) a h = let (r, is, served) = of_mend _ a h in served.0
  service_plan (Exchange b) a h = let (r, is, served) = of_done _ a h in served.0

  -- What a service call comes to, whatever its promise gives of the law and of the cells.
  module _ {A : Type 0} (r : Result A Refusal) (promise right : Type 0) (ordered : Ordered before) (book : Book) (backed : Backed book (decoded k x s))
      (plan : after.plan ≡ before.plan) (keeps : InOrder k x s → promise → right × Backed book (decoded k x t)) where
    came : (o : Option Refusal) → ServedWhen o before after r (Ordered before → Ordered after × promise) → Changed o s t promise × Answered o r right × ArrayStands book after
    came (Some e) (answer, is) = (
      subst (λ (a : Array S P). Unchanged s (table a.below)) (sym is) (unchanged s),
      answer,
      subst (ArrayStands book) (sym is) (ordered, backed),
    )
    came None served =
        let (still, is) = served ordered in
        let (law, after_backed) = keeps ordered.1 is in
        (is, law, (still, subst (λ y. Backed book (decoded k y t)) (sym (ap coefficients plan)) after_backed))

  pub service_step : (c : Service) (a : Answer) → ServiceTurn table sound k coefficients before after c a → (book : Book) → ArrayStands book before
      → ServiceChange k x c a s t × ServiceLaw k x book s c a t × ArrayStands (enter_service c a book) after
  service_step (Plain c) a turn book stands = array_step table sound k l coefficients before after c a turn book stands
  service_step (Mend b p) a turn book (ordered, backed) =
      let (r, is, (plan, same, when)) = of_mend (Serves table sound k coefficients before after (refuses_mend b p) (Mends b p)) a turn in
      let (change, law, stands) = came r (Mends b p r k x s t) (refuses_mend b p k x s ≡ None → RightMend k x s b p r t) ordered book backed plan
      (λ order mended. (
        λ none.
            let (d, there) = cell_fit _ _ b p none in
            let (match, bay) = below_cond (matched k x s) b s.bays d in
            let (_, place) = below_cond (matched k x s) p s.places there in
            let (v, hv) = order p (let e = fit_places k x s match in omega arith) in
            right_mend k x s t b p v hv (let e = matched_bays k x s match in omega arith) r mended.below.answer,
        backed_decayed book (decoded k x s) (decoded k x t) backed mended.own,
      ))
      (refuses_mend b p k x s) when in
      subst (λ a. ServiceChange k x (Mend b p) a s t × ServiceLaw k x book s (Mend b p) a t × ArrayStands (enter_service (Mend b p) a book) after) (sym is)
      (change, answered_when (refuses_mend b p k x s) r (RightMend k x s b p r t) law, stands)
  service_step (Exchange b) a turn book (ordered, backed) =
      let (r, is, (plan, same, when)) = of_done (Serves table sound k coefficients before after (refuses_fresh b) (Freshens b)) a turn in
      let (change, law, stands) = came r (Freshens b r k x s t) (r ≡ Ok tt) ordered book backed plan
      (λ order fresh. (fresh.below.done, backed_kept_all book (decoded k x s) (decoded k x t) backed (array_shape k x s t same) fresh.own))
      (refuses_fresh b k x s) when in
      subst (λ a. ServiceChange k x (Exchange b) a s t × ServiceLaw k x book s (Exchange b) a t × ArrayStands (enter_service (Exchange b) a book) after) (sym is)
      (change, law, stands)
