-- A write of an array whose old word is known: s is the table below before, t the table below after.
use Rattle.std.proofs.Common.{◌≡◌, ℕ, ◌+◌, ◌<◌, ◌≢◌, true, None, Ok, Err, List, get_or, set, Result, sym, refl, ap, ◌∙◌, subst, inl, inr, arith}
use Rattle.std.specs.Prelude.{⊤}
use Rattle.std.proofs.lemmas.Bool.{cases_eq}
use Rattle.std.proofs.lemmas.List.{get_or-set_same, get_or-set_other}
use Rattle.field.specs.Arithmetic.{Arithmetic, Lawful}
use Rattle.plan.specs.Coefficients.{Coefficients, Fitting}
use Rattle.plan.specs.Rows.{row, dot}
use Rattle.plan.proofs.DataRows.{dot-data}
use Rattle.plan.proofs.Dots.{vector_codes, dot_below}
use Rattle.plan.proofs.Rows.{row-codes}
use Rattle.plan.proofs.Vectors.{vector-set}
use Rattle.shelf.specs.declared.refusal.Refusal.{Refusal}
use Rattle.shelf.specs.declared.refusal.Refusal.TheVariants.{Lost}
use Rattle.shelf.specs.Table.{Table, Cell, blank, holds, Decayed, Kept}
use Rattle.shelf.specs.Calls.{Set, Written, WriteAnswer, NoCell, ThisCell, ThisPlace, refuses_word}
use Rattle.shelf.proofs.Settling.{shape_trans, decayed_trans, decayed_more}
use Rattle.shelf.proofs.Words.{word_fit}
use Rattle.array.specs.declared.coded.Array.{Array}
use Rattle.array.specs.Decoding.{matched, Agrees, AllowsOne, decoded, InOrder}
use Rattle.array.specs.Finding.{Found, Finds}
use Rattle.array.specs.Moving.{Rewritten, Rewrites, rewritten}
use Rattle.array.specs.Tables.{array_table, ArrayOrder, ArrayOutcome, Beneath}
use Rattle.array.specs.Changes.{WriteBelow}
use Rattle.array.proofs.Cells.{cases_cell, holds_all, one_holds, more_blank}
use Rattle.array.proofs.Shapes.{fits_place, array_shape, array_limit, matched_same}
use Rattle.array.proofs.Decay.{kept_place, agrees_still, kept_cell}
use Rattle.array.proofs.Decays.{cells_still, order_still, array_decayed, all_decayed}
use Rattle.array.proofs.Promising.{array_after, promised, beneath}
use Rattle.array.proofs.Rewriting.{kept_becomes, rewritten_agrees, agreeing_codes}

-- What was found before it was rewritten: nothing else changed meanwhile.
pub rewritten_from : (k : Arithmetic) (x : Coefficients) (j p old new : ℕ) (s t u : Table) → Decayed NoCell s t → s.bays ≡ x.n + x.m → p < s.places → Rewritten k x j p old new t u → Rewritten k x j p old new s u
rewritten_from k x j p old new s t u h is there w = record {
  rest = decayed_trans (ThisPlace p) s t u (decayed_more NoCell (ThisPlace p) s t (λ b p z. absurd z) h) w.rest;
  cells = λ b few. kept_becomes (rewritten k x j old new b) (s.cell b p) (t.cell b p) (u.cell b p) (h.cells b p (omega arith) there (λ z. z)) (w.cells b few);
}

module _ (k : Arithmetic) (l : Lawful k) (x : Coefficients) (fit : Fitting k x) (s t : Table) (j p old new : ℕ) (d : j < x.n) (low : new < k.order) (one : AllowsOne k x s j p old) (w : Rewritten k x j p old new s t) where
  -- Each vector that agreed with the place has the old word,
  had_old : (v : List ℕ) → Agrees k x s p v → get_or v j 0 ≡ old
  had_old v h = sym (dot-data k l x j v d h.vector) ∙ one.1 (dot k (row x j) v) (v, h, refl)

  -- and agrees with it rewritten, once it has the new one.
  agrees_new : (v : List ℕ) → Agrees k x s p v → Agrees k x t p (set v j new)
  agrees_new v h = rewritten_agrees k l x fit j p old new s t d low w v h (had_old v h)

  gives_new : (v : List ℕ) → Agrees k x s p v → dot k (row x j) (set v j new) ≡ new
  gives_new v h = dot-data k l x j (set v j new) d (vector-set k l x.n v j new low h.vector) ∙ get_or-set_same v j new 0 (let e = h.vector.long in omega arith)

  gives_other : (i : ℕ) → i < x.n → i ≢ j → (v : List ℕ) → Agrees k x s p v → dot k (row x i) (set v j new) ≡ dot k (row x i) v
  gives_other i d' away v h =
      dot-data k l x i (set v j new) d' (vector-set k l x.n v j new low h.vector)
      ∙ get_or-set_other v j i new 0 away ∙ sym (dot-data k l x i v d' h.vector)

  -- So the cell has the new word or is blank,
  set_new : Set new ((decoded k x t).cell j p)
  set_new = let (v, h, is) = one.0 in elim (cases_cell ((decoded k x t).cell j p)) [
    | inl e ↦ inr e
    | inr (u, e) ↦ inl (e ∙ ap holds (sym (holds_all k l x t p j d u e (set v j new) (agrees_new v h)) ∙ gives_new v h))
  ]

  -- and the others keep theirs, or are blank.
  module _ (ordered : InOrder k x s) where
    other_cells : (i p' : ℕ) → i < (decoded k x s).bays → p' < (decoded k x s).places → (ThisCell j p i p' → ⊥) → Kept ((decoded k x s).cell i p') ((decoded k x t).cell i p')
    other_cells i p' d' there out = elim (cases_eq p' p) [
      | inl same ↦
          let (v, h, is) = one.0 in
          let f = fits_place k x s p' there in
          let few : i < x.n = (let e = f.own_bays in omega arith) in
          subst (λ p. Kept ((decoded k x s).cell i p) ((decoded k x t).cell i p)) (sym same)
          (kept_cell k l x s t p i few (λ v. set v j new) (λ v hv. (agrees_new v hv, gives_other i few (λ e. out (e, same)) v hv)) v h)
      | inr away ↦ cells_still k l x (ThisPlace p) (ThisCell j p) s t w.rest ordered i p' d' there (λ b e. away e)
    ]

    order_after : InOrder k x t
    order_after p' there = elim (cases_eq p' p) [
      | inl same ↦
          let (v, h, is) = one.0 in
          subst (λ p. (v : List ℕ) × Agrees k x t p v) (sym same) (set v j new, agrees_new v h)
      | inr away ↦ order_still k l x (ThisPlace p) (ThisCell j p) s t w.rest ordered p' (let e = (array_shape k x s t w.rest.shape).places in omega arith) (λ b e. away e)
    ]

    pub writes : InOrder k x t × Written j p new (decoded k x s) (decoded k x t) (Ok tt)
    writes = (
      order_after,
      record {
        rest = array_decayed k l x (ThisPlace p) (ThisCell j p) s t w.rest other_cells;
        answer = subst (λ c. WriteAnswer new c ((decoded k x t).cell j p) (Ok tt)) (sym (one_holds k l x s p j d old one)) (set_new, inl refl);
      },
    )

module _ (k : Arithmetic) (l : Lawful k) (x : Coefficients) (s t : Table) (j p new : ℕ) (there : p < (decoded k x s).places) (d : j < x.n) where
  -- A lost write changes nothing, and its cell is blank.
  lost_answer : (c : Cell) (e : Refusal) → e ≡ Lost → (decoded k x t).cell j p ≡ blank → WriteAnswer new c ((decoded k x t).cell j p) (Err e)
  lost_answer blank e is empty = (ap Err is, empty)
  lost_answer (holds w) e is empty = (inr empty, inr (ap Err is, empty))

  pub lost_write : InOrder k x s → (e : Refusal) → Found k x j p s t (Err e) → InOrder k x t × Written j p new (decoded k x s) (decoded k x t) (Err e)
  lost_write ordered e h =
      let (rest, after) = all_decayed k l x (ThisCell j p) s t h.rest ordered in
      let there' : p < (decoded k x t).places = (let e = rest.shape.places in omega arith) in
      let (v, hv) = after p there' in
      let empty = more_blank k l x t p j d (h.answer.1 (dot k (row x j) v) (v, hv, refl)) in
      (after, record { rest = rest; answer = lost_answer ((decoded k x s).cell j p) e h.answer.0 empty })

module _ {S P : Type 0} (table : S → Table) (sound : S → Type 0) (k : Arithmetic) (l : Lawful k) (coefficients : P → Coefficients) (before : Array S P) (fit : Fitting k (coefficients before.plan)) (j p new : ℕ) (none : refuses_word j p new (array_table table k coefficients before) ≡ None) where
  abbrev x : Coefficients
  x = coefficients before.plan

  abbrev s : Table
  s = table before.below

  -- what is known of a write that is not refused
  record Known : Type 0 where
    bay : j < x.n
    here : p < (decoded k x s).places
    low : new < k.order
    match : matched k x s ≡ true
    bays : s.bays ≡ x.n + x.m
    place : p < s.places

  known : Known
  known =
      let (d, here, low) = word_fit _ _ _ j p new none in
      let f = fits_place k x s p here in
      record {
        bay = let e = f.own_bays in omega arith;
        here = here;
        low = let e = array_limit k x s in omega arith;
        match = f.match;
        bays = f.bays;
        place = let e = f.own_places in omega arith;
      }

  module _ (below : S) (r : Result ℕ Refusal) (found : Finds table sound k x j p before.below below ⊤ r) where
    found_so : ArrayOrder table sound k coefficients before → sound below × Found k x j p s (table below) r
    found_so ordered =
        let h = known in
        found.1 ordered.0 h.match (let b = h.bay in let e = h.bays in omega arith) h.place tt

  -- the array over the shelf below as it is then
  abbrev then : S → Array S P
  then below = array_after table sound k coefficients before (refuses_word j p new) none below

  -- The old word is lost.
  pub lost_promised : (below : S) (e : Refusal) → Finds table sound k x j p before.below below ⊤ (Err e) → ArrayOutcome table sound k coefficients before (then below) (refuses_word j p new) (Written j p new) (Err e)
  lost_promised below e found =
      promised table sound k coefficients before (refuses_word j p new) none below (Written j p new) (Err e) found.0
      (λ ordered. (found_so below (Err e) found ordered).0)
      (λ ordered. lost_write k l x s (table below) j p new known.here known.bay ordered.1 e (found_so below (Err e) found ordered).1)

  pub lost_below : (below : S) (e : Refusal) → Finds table sound k x j p before.below below ⊤ (Err e) → Beneath table sound k coefficients before (then below) (refuses_word j p new) (WriteBelow j p new (Err e))
  lost_below below e found =
      beneath table sound k coefficients before (refuses_word j p new) none below (WriteBelow j p new (Err e)) (λ ordered. (found_so below (Err e) found ordered).1.rest)

  -- The old word is known.
  module _ (middle below : S) (old : ℕ) (found : Finds table sound k x j p before.below middle ⊤ (Ok old)) (rewrites : Rewrites table sound k x j p old new middle below) where
    wrote_so : ArrayOrder table sound k coefficients before → sound below × AllowsOne k x s j p old × Rewritten k x j p old new s (table below)
    wrote_so ordered =
        let h = known in
        let (sound_between, is) = found_so middle (Ok old) found ordered in
        let (v, hv) = ordered.1 p h.here in
        let gave = is.answer (dot k (row x j) v) (v, hv, refl) in
        let kept = kept_place k x NoCell s (table middle) p is.rest h.bays h.place (λ b z. z) in
        let code : old < k.order = subst (λ (y : ℕ). y < k.order) gave (dot_below k l (row x j) v (row-codes k l x fit j) (vector_codes k l x.n v hv.vector)) in
        let (last, w) = rewrites.1 sound_between (matched_same k x s (table middle) found.0 ∙ h.match) h.bay (let e = found.0.places in let i = h.place in omega arith) code h.low
        (agreeing_codes k l x fit (table middle) p v (agrees_still k x s (table middle) p kept v hv)) in
        (last, ((v, hv, gave), is.answer), rewritten_from k x j p old new s (table middle) (table below) is.rest h.bays h.place w)

    pub kept_promised : ArrayOutcome table sound k coefficients before (then below) (refuses_word j p new) (Written j p new) (Ok tt)
    kept_promised =
        promised table sound k coefficients before (refuses_word j p new) none below (Written j p new) (Ok tt) (shape_trans s (table middle) (table below) found.0 rewrites.0)
        (λ ordered. (wrote_so ordered).0)
        (λ ordered. let (last, one, w) = wrote_so ordered in writes k l x fit s (table below) j p old new known.bay known.low one w ordered.1)

    pub kept_below : Beneath table sound k coefficients before (then below) (refuses_word j p new) (WriteBelow j p new (Ok tt))
    kept_below = beneath table sound k coefficients before (refuses_word j p new) none below (WriteBelow j p new (Ok tt)) (λ ordered. let (last, one, w) = wrote_so ordered in (old, one, w))
