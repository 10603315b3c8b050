-- A mend of a cell below, and a fresh device: s is the table below before, t the table below after.
use Rattle.std.proofs.Common.{◌≡◌, ℕ, ◌+◌, ◌<◌, true, false, Ok, Err, List, Result, sym, refl, ap, ◌∙◌, subst, inl, inr, ⊎_elim, arith}
use Rattle.std.specs.Prelude.{⊤}
use Rattle.std.proofs.lemmas.Bool.{cases_Bool, cases_eq}
use Rattle.field.specs.Arithmetic.{Arithmetic, Lawful}
use Rattle.plan.specs.Coefficients.{Coefficients, Fitting}
use Rattle.plan.specs.Rows.{row, dot}
use Rattle.plan.proofs.Dots.{vector_codes, dot_below}
use Rattle.plan.proofs.Rows.{row-codes}
use Rattle.shelf.specs.declared.refusal.Refusal.{Refusal}
use Rattle.shelf.specs.declared.refusal.Refusal.TheVariants.{Stopped}
use Rattle.shelf.specs.Table.{Table, blank, Decayed, Kept}
use Rattle.shelf.specs.Calls.{Outcome, NoCell, ThisCell, Read, Patched, Exchanged, refuses_read, refuses_word}
use Rattle.shelf.proofs.Settling.{shape_trans, decayed_trans, decayed_more, kept_trans, held_before, read_there, word_there, when_done}
use Rattle.array.specs.declared.mending.Mending.{Mending}
use Rattle.array.specs.declared.mending.Mending.TheVariants.{Whole}
use Rattle.array.specs.declared.mending.Mending.TheVariants.{Patched as PatchedCell}
use Rattle.array.specs.Decoding.{matched, Gives, Agrees, AllowsOne, decoded, InOrder}
use Rattle.array.specs.Finding.{Finds}
use Rattle.array.specs.Service.{MendAnswer, MendsBelow, MendsCell, Mends, Freshens}
use Rattle.array.proofs.Decay.{KeptPlace, kept_place, gives_still, agrees_still, allows_still, kept_cell}
use Rattle.array.proofs.Decays.{cells_still, order_still, array_decayed}
use Rattle.array.proofs.Shapes.{fits_place, array_shape, matched_bays, matched_limit, matched_same}

module _ (k : Arithmetic) (l : Lawful k) (x : Coefficients) (s t : Table) (b p : ℕ) (r : Result Mending Refusal) (bays : s.bays ≡ x.n + x.m) (place : p < s.places) (h : MendsBelow k x b p s t r) where
  -- The mended cell gives what each vector that agreed gives: it is kept, or holds the one word that was allowed.
  mended_gives : (v : List ℕ) → Agrees k x s p v → b < x.n + x.m → (q : Result Mending Refusal) → MendAnswer k x b p s t q → Gives k x b v (t.cell b p)
  mended_gives v hv few (Ok Whole) (had, kept) = gives_still k x b v (s.cell b p) (t.cell b p) (hv.gives b few) kept
  mended_gives v hv few (Ok PatchedCell) (w, one, set, filled) =
      ⊎_elim
      (λ e. subst (Gives k x b v) (sym e) (sym (one.1 (dot k (row x b) v) (v, hv, refl))))
      (λ e. subst (Gives k x b v) (sym e) tt) set
  mended_gives v hv few (Err e) answer =
      ⊎_elim
      (λ (lost, more, kept). gives_still k x b v (s.cell b p) (t.cell b p) (hv.gives b few) kept)
      (λ (stopped, halted, empty). subst (Gives k x b v) (sym empty) tt) answer

  -- So each vector that agreed with the place agrees still.
  mended_agrees : (v : List ℕ) → Agrees k x s p v → Agrees k x t p v
  mended_agrees v hv = record {
    vector = hv.vector;
    gives = λ c few. elim (cases_eq c b) [
      | inl same ↦
          subst (λ c. Gives k x c v (t.cell c p)) (sym same) (mended_gives v hv (let d : c < x.n + x.m = few in omega arith) r h.answer)
      | inr away ↦ gives_still k x c v (s.cell c p) (t.cell c p) (hv.gives c few) (h.rest.cells c p (omega arith) place (λ at. away at.0))
    ];
  }

  module _ (ordered : InOrder k x s) where
    own_cells : (j p' : ℕ) → j < (decoded k x s).bays → p' < (decoded k x s).places → (NoCell j p' → ⊥) → Kept ((decoded k x s).cell j p') ((decoded k x t).cell j p')
    own_cells j p' d there out = elim (cases_eq p' p) [
      | inl same ↦
          let (v, hv) = ordered p' there in
          let f = fits_place k x s p' there in
          subst (λ q. Kept ((decoded k x s).cell j q) ((decoded k x t).cell j q)) (sym same)
          (kept_cell k l x s t p j (let e = f.own_bays in omega arith) (λ v. v) (λ v hv. (mended_agrees v hv, refl)) v (subst (λ q. Agrees k x s q v) same hv))
      | inr away ↦ cells_still k l x (ThisCell b p) NoCell s t h.rest ordered j p' d there (λ c at. away at.1)
    ]

    pub mends : InOrder k x t × Mends b p r k x s t
    mends = (
      λ p' there. elim (cases_eq p' p) [
        | inl same ↦
            let (v, hv) = ordered p' (let e = (array_shape k x s t h.rest.shape).places in omega arith) in
            (v, subst (λ q. Agrees k x t q v) (sym same) (mended_agrees v (subst (λ q. Agrees k x s q v) same hv)))
        | inr away ↦ order_still k l x (ThisCell b p) NoCell s t h.rest ordered p' (let e = (array_shape k x s t h.rest.shape).places in omega arith) (λ c at. away at.1)
      ],
      record { below = h; own = array_decayed k l x (ThisCell b p) NoCell s t h.rest own_cells },
    )

-- A fresh device only makes cells blank.
module _ (k : Arithmetic) (l : Lawful k) (x : Coefficients) (s t : Table) (b : ℕ) (r : Result Unit Refusal) (bays : s.bays ≡ x.n + x.m) (h : Exchanged b s t r) where
  fresh_place : (p : ℕ) → p < s.places → KeptPlace k x s t p
  fresh_place p there c few = elim (cases_eq c b) [
    | inl same ↦ inr (ap (λ c. t.cell c p) same ∙ h.fresh p there)
    | inr away ↦ h.cells c p (omega arith) there away
  ]

  pub freshens : InOrder k x s → InOrder k x t × Freshens b r k x s t
  freshens ordered = (
    λ p there.
        let here : p < (decoded k x s).places = (let e = (array_shape k x s t h.shape).places in omega arith) in
        let f = fits_place k x s p here in
        let (v, hv) = ordered p here in
        (v, agrees_still k x s t p (fresh_place p (let e = f.own_places in omega arith)) v hv),
    record {
      below = h;
      own = λ j p d there.
          let f = fits_place k x s p there in
          let (v, hv) = ordered p there in
          let kept = fresh_place p (let e = f.own_places in omega arith) in
          kept_cell k l x s t p j (let e = f.own_bays in omega arith) (λ v. v) (λ v hv. (agrees_still k x s t p kept v hv, refl)) v hv;
    },
  )

module _ {Self : Type 0} (table : Self → Table) (sound : Self → Type 0) (k : Arithmetic) (l : Lawful k) (x : Coefficients) (fit : Fitting k x) (b p : ℕ) (s : Self) where
  -- A cell that gave its word is whole.
  pub whole_cell : (t : Self) (w : ℕ) → Outcome table sound s t (refuses_read b p) (Read b p) (Ok w) → MendsCell table sound k x b p s t ⊤ (Ok Whole)
  whole_cell t w read = (
    read.0,
    λ ordered match bay place v hv _.
        let (still, done) = when_done (table s) (table t) (sound s) (sound t) (refuses_read b p (table s)) (Read b p) (Ok w) (read_there b p (table s) bay place) read ordered in (
          still,
          record {
            rest = decayed_more NoCell (ThisCell b p) (table s) (table t) (λ b p z. absurd z) done.rest;
            answer = ((w, done.answer), done.rest.cells b p bay place (λ z. z));
          },
        ),
  )

  module _ (t u : Self) (w : ℕ) (found : Finds table sound k x b p s t ((table s).cell b p ≡ blank) (Ok w)) (r : Result Unit Refusal) (patch : Outcome table sound t u (refuses_word b p w) (Patched b p w) r) where
    -- What is known of a patch with the told word: it was the one word allowed, and the patch keeps its promise.
    patched_so : sound s → matched k x (table s) ≡ true → b < (table s).bays → p < (table s).places → (v : List ℕ) → Agrees k x (table s) p v → (table s).cell b p ≡ blank
        → sound u × AllowsOne k x (table s) b p w × Decayed (ThisCell b p) (table s) (table u) × Patched b p w (table t) (table u) r
    patched_so ordered match bay place v hv empty =
        let (still, is) = found.1 ordered match bay place empty in
        let few : b < x.n + x.m = (let e = matched_bays k x (table s) match in omega arith) in
        let gave = is.answer (dot k (row x b) v) (v, hv, refl) in
        let code : w < k.order = subst (λ (y : ℕ). y < k.order) gave (dot_below k l (row x b) v (row-codes k l x fit b) (vector_codes k l x.n v hv.vector)) in
        let limit = matched_limit k x (table s) match in
        let (last, done) = when_done (table t) (table u) (sound t) (sound u) (refuses_word b p w (table t)) (Patched b p w) r
        (word_there b p w (table t) (let e = found.0.bays in omega arith) (let e = found.0.places in omega arith) (let e = found.0.limit in omega arith)) patch still in (
          last,
          ((v, hv, gave), is.answer),
          decayed_trans (ThisCell b p) (table s) (table t) (table u) (decayed_more NoCell (ThisCell b p) (table s) (table t) (λ b p z. absurd z) is.rest) done.rest,
          done,
        )

  -- A told word that was put in the cell.
  pub patched_cell : (t u : Self) (w : ℕ) → Finds table sound k x b p s t ((table s).cell b p ≡ blank) (Ok w) → Outcome table sound t u (refuses_word b p w) (Patched b p w) (Ok tt) → MendsCell table sound k x b p s u ((table s).cell b p ≡ blank) (Ok PatchedCell)
  patched_cell t u w found patch = (
    shape_trans (table s) (table t) (table u) found.0 patch.0,
    λ ordered match bay place v hv empty.
        let (last, one, rest, done) = patched_so t u w found (Ok tt) patch ordered match bay place v hv empty in
        (last, record { rest = rest; answer = (w, one, done.set, done.filled) }),
  )

  -- One that was not: the cell is blank, so the bay is stopped.
  pub stopped_cell : (t u : Self) (w : ℕ) (e : Refusal) → Finds table sound k x b p s t ((table s).cell b p ≡ blank) (Ok w) → Outcome table sound t u (refuses_word b p w) (Patched b p w) (Err e) → MendsCell table sound k x b p s u ((table s).cell b p ≡ blank) (Err Stopped)
  stopped_cell t u w e found patch = (
    shape_trans (table s) (table t) (table u) found.0 patch.0,
    λ ordered match bay place v hv empty.
        let (last, one, rest, done) = patched_so t u w found (Err e) patch ordered match bay place v hv empty in
        let gone : (table u).cell b p ≡ blank = ⊎_elim (λ kept. absurd (let z : ◌≡◌ {A = ℕ} 0 1 = cc in let y : ⊥ = omega arith in y)) (λ (lost, empty). empty) done.answer in
        let halted : (table u).running b ≡ false = ⊎_elim (λ on. absurd (done.filled on gone)) (λ off. off) (cases_Bool ((table u).running b)) in
        (last, record { rest = rest; answer = inr (refl, halted, gone) }),
  )

  -- A word that is not told.
  pub lost_cell : (t : Self) (e : Refusal) → Finds table sound k x b p s t ((table s).cell b p ≡ blank) (Err e) → MendsCell table sound k x b p s t ((table s).cell b p ≡ blank) (Err e)
  lost_cell t e found = (
    found.0,
    λ ordered match bay place v hv empty.
        let (still, is) = found.1 ordered match bay place empty in
        let kept = kept_place k x NoCell (table s) (table t) p is.rest (matched_bays k x (table s) match) place (λ b z. z) in (
          still,
          record {
            rest = decayed_more NoCell (ThisCell b p) (table s) (table t) (λ b p z. absurd z) is.rest;
            answer = inl (is.answer.0, is.answer.1 (dot k (row x b) v) (v, agrees_still k x (table s) (table t) p kept v hv, refl), is.rest.cells b p bay place (λ z. z));
          },
        ),
  )

  -- A cell that gave no word is blank, and what is done with it then is a mend from the start.
  pub later_mend : (t u : Self) (e : Refusal) (r : Result Mending Refusal) → Outcome table sound s t (refuses_read b p) (Read b p) (Err e) → MendsCell table sound k x b p t u ((table t).cell b p ≡ blank) r → MendsCell table sound k x b p s u ⊤ r
  later_mend t u e r read mend = (
    shape_trans (table s) (table t) (table u) read.0 mend.0,
    λ ordered match bay place v hv _.
        let (still, done) = when_done (table s) (table t) (sound s) (sound t) (refuses_read b p (table s)) (Read b p) (Err e) (read_there b p (table s) bay place) read ordered in
        let bays = matched_bays k x (table s) match in
        let kept = kept_place k x NoCell (table s) (table t) p done.rest bays place (λ b z. z) in
        let (last, is) = mend.1 still (matched_same k x (table s) (table t) read.0 ∙ match) (let e = read.0.bays in omega arith) (let e = read.0.places in omega arith) v (agrees_still k x (table s) (table t) p kept v hv) done.answer.1 in (
          last,
          record {
            rest = decayed_trans (ThisCell b p) (table s) (table t) (table u) (decayed_more NoCell (ThisCell b p) (table s) (table t) (λ b p z. absurd z) done.rest) is.rest;
            answer = earlier kept v hv (kept b (omega arith)) r is.answer;
          },
        ),
  )
    where
      earlier : KeptPlace k x (table s) (table t) p → (v : List ℕ) → Agrees k x (table s) p v → Kept ((table s).cell b p) ((table t).cell b p) → (r : Result Mending Refusal) → MendAnswer k x b p (table t) (table u) r → MendAnswer k x b p (table s) (table u) r
      earlier kept v hv here (Ok Whole) ((w, had), after) =
          ((w, held_before ((table s).cell b p) ((table t).cell b p) w had here), kept_trans ((table s).cell b p) ((table t).cell b p) ((table u).cell b p) here after)
      earlier kept v hv here (Ok PatchedCell) (w, one, set, filled) =
          (w, ((v, hv, one.1 (dot k (row x b) v) (v, agrees_still k x (table s) (table t) p kept v hv, refl)), λ a allowed. one.1 a (allows_still k x (table s) (table t) p kept b a allowed)), set, filled)
      earlier kept v hv here (Err e) answer =
          ⊎_elim (λ (lost, more, after). inl (lost, more, kept_trans ((table s).cell b p) ((table t).cell b p) ((table u).cell b p) here after)) (λ stopped. inr stopped) answer
