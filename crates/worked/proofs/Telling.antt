-- What the cells left of a place tell of a word, from the tests that antt computes.
use Rattle.std.proofs.Common.{◌≡◌, ℕ, ◌+◌, ◌<◌, ◌≢◌, Bool, true, false, not, ◌&&◌, ◌||◌, eqb, ltb, List, length, get_or, refl, ap, ◌∙◌, subst, inl, inr, arith}
use Rattle.std.specs.Prelude.{MatchBool}
use Rattle.std.specs.List.{list_all, range_with_len}
use Rattle.std.specs.Str.{bytes_eq}
use Rattle.std.proofs.lemmas.Slice.Eq.{bytes_eq-Decides}
use Rattle.std.proofs.lemmas.Bool.{and_parts, not-true, ltb-true, eqb-true, eqb-false}
use Rattle.std.proofs.lemmas.List.Sums.{AllPass-from_list_all}
use Rattle.field.specs.Arithmetic.{Arithmetic, Lawful}
use Rattle.plan.specs.Coefficients.{Coefficients, Fitting}
use Rattle.plan.specs.Rows.{row, dot, Vector, Tells}
use Rattle.plan.proofs.Dots.{Codes, vector_codes}
use Rattle.plan.proofs.DataRows.{dot-data}
use Rattle.shelf.specs.Table.{Table, blank, holds}
use Rattle.array.specs.Decoding.{AllowsOne, decoded}
use Rattle.array.proofs.Cells.{cases_cell, one_holds}
use Rattle.array.proofs.Lays.{told_one, filled_told}
use Rattle.array.proofs.Tests.{all_at, implied}
use Rattle.worked.specs.Places.{among, Stands}
use Rattle.worked.proofs.Mixing.{mixed, mixed_tells}

-- whether all are codes
abbrev pub codes_so : Arithmetic → List ℕ → Bool
codes_so k vs = list_all (λ v. ltb v k.order) vs

-- whether the combination of the rows of the bays left, bays of the plan each, is the row of bay r
abbrev pub tells_test : Arithmetic → Coefficients → List ℕ → ℕ → List ℕ → Bool
tells_test k x left r cs = (codes_so k cs && list_all (λ b. ltb b (x.n + x.m) && among left b) left) && bytes_eq (mixed k x cs left) (row x r)

-- whether the rows of the bays left give zero on a vector, and the row of bay r does not
abbrev pub loses_test : Arithmetic → Coefficients → List ℕ → ℕ → List ℕ → Bool
loses_test k x left r z =
    ((eqb (length z) x.n && codes_so k z) && list_all (λ b. not (among left b) || eqb (dot k (row x b) z) 0) (range_with_len 0 (x.n + x.m)))
    && not (eqb (dot k (row x r) z) 0)

module _ (k : Arithmetic) (l : Lawful k) where
  codes_from : (vs : List ℕ) → codes_so k vs ≡ true → (j : ℕ) → j < length vs → get_or vs j 0 < k.order
  codes_from vs e j few = ltb-true (get_or vs j 0) k.order (AllPass-from_list_all (λ v. ltb v k.order) vs e j 0 few)

  all_codes : (vs : List ℕ) → codes_so k vs ≡ true → Codes k vs
  all_codes vs e = vector_codes k l (length vs) vs (record { long = refl; below = codes_from vs e })

  vector_from : (n : ℕ) (vs : List ℕ) → eqb (length vs) n && codes_so k vs ≡ true → Vector k n vs
  vector_from n vs e =
      let (long, low) = and_parts _ _ e in
      let same : length vs ≡ n = eqb-true (length vs) n long in
      record { long = same; below = λ j few. codes_from vs low j (omega arith) }

module _ (k : Arithmetic) (l : Lawful k) (x : Coefficients) (fit : Fitting k x) (left : List ℕ) where
  -- What passes the first test is told,
  pub told : (r : ℕ) (cs : List ℕ) → tells_test k x left r cs ≡ true → Tells k x (among left) r
  told r cs e =
      let (front, is) = and_parts _ _ e in
      let (low, within) = and_parts _ _ front in
      mixed_tells k l x fit cs left (among left) r (all_codes k l cs low) ((bytes_eq-Decides (mixed k x cs left) (row x r)).0 is)
      (λ i d few. let (a, b) = and_parts _ _ (AllPass-from_list_all (λ b. ltb b (x.n + x.m) && among left b) left within i d few) in (ltb-true _ _ a, b))

  -- and what passes the second is not.
  pub untold : (r : ℕ) (z : List ℕ) → loses_test k x left r z ≡ true → Tells k x (among left) r → ⊥
  untold r z e tells =
      let (front, other) = and_parts _ _ e in
      let (vector, zeros) = and_parts _ _ front in
      eqb-false _ _ (not-true _ other) (tells z (vector_from k l x.n z vector) (λ b few on.
      eqb-true _ _ (implied (among left b) (eqb (dot k (row x b) z) 0) (all_at (λ b. not (among left b) || eqb (dot k (row x b) z) 0) 0 (x.n + x.m) b zeros (omega arith) (omega arith)) on)))

  module _ (t : Table) (p : ℕ) (v : List ℕ) (h : Stands k x t p v left) where
    filled : (b : ℕ) → b < x.n + x.m → among left b ≡ true → t.cell b p ≢ blank
    filled b few on = subst (λ a. MatchBool a (t.cell b p ≢ blank) (t.cell b p ≡ blank)) on (h.cells b few)

    empty : (b : ℕ) → b < x.n + x.m → among left b ≡ false → t.cell b p ≡ blank
    empty b few off = subst (λ a. MatchBool a (t.cell b p ≢ blank) (t.cell b p ≡ blank)) off (h.cells b few)

    -- The cells left allow one word for a bay that is told,
    pub allows : (r : ℕ) → Tells k x (among left) r → AllowsOne k x t r p (dot k (row x r) v)
    allows r tells = told_one k l x fit t p r v h.agrees (among left) filled tells

    -- which the cell of a data bay holds,
    pub read : (j : ℕ) → j < x.n → Tells k x (among left) j → (decoded k x t).cell j p ≡ holds (get_or v j 0)
    read j few tells = one_holds k l x t p j few (dot k (row x j) v) (allows j tells) ∙ ap holds (dot-data k l x j v few h.agrees.vector)

    -- and a cell that is not told is blank.
    pub lost : (j : ℕ) → j < x.n → (Tells k x (among left) j → ⊥) → (decoded k x t).cell j p ≡ blank
    lost j few open_ = elim (cases_cell ((decoded k x t).cell j p)) [
      | inl e ↦ e
      | inr (w, e) ↦ absurd (open_ (filled_told k l x fit t p j few v h.agrees (among left) empty w e))
    ]
