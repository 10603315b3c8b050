-- From what a service call does below to what it promises of the array.
use Rattle.std.proofs.Common.{◌≡◌, ℕ, ◌<◌, Bool, true, false, cond, None, Option, Result, refl, sym, ap, ap₂, ◌∙◌, subst, arith}
use Rattle.std.specs.Prelude.{⊤}
use Rattle.std.proofs.lemmas.Bool.{lt-leb}
use Rattle.field.specs.Arithmetic.{Arithmetic, Lawful}
use Rattle.plan.specs.Coefficients.{Coefficients}
use Rattle.shelf.specs.declared.refusal.Refusal.{Refusal}
use Rattle.shelf.specs.Refusals.{bay_refusal, cell_refusal}
use Rattle.shelf.specs.Table.{Table, SameShape}
use Rattle.shelf.specs.Calls.{Outcome, Exchanged, refuses_exchange}
use Rattle.shelf.proofs.Settling.{when_done}
use Rattle.shelf.proofs.Words.{bay_fit, cell_fit}
use Rattle.array.specs.declared.coded.Array.{Array}
use Rattle.array.specs.declared.mending.Mending.{Mending}
use Rattle.array.specs.Decoding.{matched, InOrder}
use Rattle.array.specs.Tables.{ArrayOrder}
use Rattle.array.specs.Service.{refuses_mend, refuses_fresh, MendsCell, Mends, Freshens, ServedWhen, Serves}
use Rattle.array.proofs.Mends.{mends, freshens}
use Rattle.array.proofs.Shapes.{matched_bays, fit_places}

-- a number below such a condition is so only where the condition holds
pub below_cond : (b : Bool) (n m : ℕ) → n < cond b m 0 → (b ≡ true) × (n < m)
below_cond true n m h = (refl, h)
below_cond false n m h = absurd (let z : ⊥ = omega arith in z)

module _ {S P : Type 0} (table : S → Table) (sound : S → Type 0) (k : Arithmetic) (l : Lawful k) (coefficients : P → Coefficients) (before : Array S P) (below : S) where
  abbrev x : Coefficients
  x = coefficients before.plan

  abbrev s : Table
  s = table before.below

  abbrev t : Table
  t = table below

  abbrev pub served_after : Array S P
  served_after = record { below = below; plan = before.plan }

  abbrev Ordered : Type 0
  Ordered = ArrayOrder table sound k coefficients before

  served : {A : Type 0} (refusal : Arithmetic → Coefficients → Table → Option Refusal) (promise : Result A Refusal → Arithmetic → Coefficients → Table → Table → Type 0) (r : Result A Refusal)
      → refusal k x s ≡ None → SameShape s t → (Ordered → sound below) → (Ordered → InOrder k x t × promise r k x s t) → Serves table sound k coefficients before served_after refusal promise r
  served refusal promise r none same still keeps = (
    refl,
    same,
    subst (λ o. ServedWhen o before served_after r (Ordered → ArrayOrder table sound k coefficients served_after × promise r k x s t)) (sym none)
        (λ ordered. let (order, kept) = keeps ordered in ((still ordered, order), kept)),
  )

  -- What the tests on the shape let pass is not refused.
  pub tested_mend : (n m b p : ℕ) → n ≡ cond (matched k x s) s.bays 0 → m ≡ cond (matched k x s) s.places 0 → cell_refusal n m b p ≡ None → refuses_mend b p k x s ≡ None
  tested_mend n m b p bays places none = sym (ap₂ (λ n m. cell_refusal n m b p) bays places) ∙ none

  pub tested_fresh : (n b : ℕ) → n ≡ cond (matched k x s) s.bays 0 → bay_refusal n b ≡ None → refuses_fresh b k x s ≡ None
  tested_fresh n b bays none = sym (ap (λ n. bay_refusal n b) bays) ∙ none

  -- A mend that its arguments do not refuse.
  module _ (b p : ℕ) (r : Result Mending Refusal) (none : refuses_mend b p k x s ≡ None) (mend : MendsCell table sound k x b p before.below below ⊤ r) where
    mended_so : Ordered → sound below × (InOrder k x t × Mends b p r k x s t)
    mended_so ordered =
        let (d, there) = cell_fit _ _ b p none in
        let (match, bay) = below_cond (matched k x s) b s.bays d in
        let (_, place) = below_cond (matched k x s) p s.places there in
        let (v, hv) = ordered.1 p (let e = fit_places k x s match in omega arith) in
        let (still, is) = mend.1 ordered.0 match bay place v hv tt in
        let (order, all) = mends k l x s t b p r (matched_bays k x s match) place is ordered.1 in
        (still, (order, all))

    pub mend_served : Serves table sound k coefficients before served_after (refuses_mend b p) (Mends b p) r
    mend_served = served (refuses_mend b p) (Mends b p) r none mend.0 (λ ordered. (mended_so ordered).0) (λ ordered. (mended_so ordered).1)

  -- An exchange.
  module _ (b : ℕ) (r : Result Unit Refusal) (none : refuses_fresh b k x s ≡ None) (exchange : Outcome table sound before.below below (refuses_exchange b) (Exchanged b) r) where
    exchanged_so : Ordered → sound below × (InOrder k x t × Freshens b r k x s t)
    exchanged_so ordered =
        let (match, bay) = below_cond (matched k x s) b s.bays (bay_fit _ b none) in
        let there : refuses_exchange b s ≡ None = (let e = lt-leb s.bays b bay in simp e) in
        let (still, done) = when_done s t (sound before.below) (sound below) (refuses_exchange b s) (Exchanged b) r there exchange ordered.0 in
        let (order, all) = freshens k l x s t b r (matched_bays k x s match) done ordered.1 in
        (still, (order, all))

    pub exchange_served : Serves table sound k coefficients before served_after (refuses_fresh b) (Freshens b) r
    exchange_served = served (refuses_fresh b) (Freshens b) r none exchange.0 (λ ordered. (exchanged_so ordered).0) (λ ordered. (exchanged_so ordered).1)
