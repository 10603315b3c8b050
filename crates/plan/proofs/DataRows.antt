-- The row of a data bay gives the word of the bay.
use Rattle.std.proofs.Common.{◌≡◌, ℕ, zero, suc, ◌+◌, ◌-◌, ◌<◌, ◌≤◌, ◌≢◌, eqb, List, [], ◌∷◌, map, length, get_or, sym, refl, ap, ap₂, ◌∙◌, inl, inr, arith}
use Rattle.std.specs.List.{range_with_len}
use Rattle.std.proofs.lemmas.Bool.{cond-true, cond-false, cases_lt, eq-eqb, ne_eqb}
use Rattle.std.proofs.lemmas.List.FromFn.{length-range_with_len, get_or-range_with_len}
use Rattle.field.specs.Arithmetic.{Arithmetic, Lawful}
use Rattle.field.specs.Laws.{add-zero}
use Rattle.plan.specs.Coefficients.{Coefficients}
use Rattle.plan.specs.Rows.{entry, row, dot, Vector}
use Rattle.plan.proofs.Dots.{Codes, vector_codes}
use Rattle.plan.proofs.Ring.{zero-mul}
use Rattle.plan.proofs.Rows.{entry_data}
use Rattle.plan.proofs.Sums.{dot-none}

module _ (k : Arithmetic) (l : Lawful k) where
  -- A row that is one in column b and zero elsewhere gives entry b: the columns before it add nothing, and so do those after it.
  dot-one : (f : ℕ → ℕ) (b i n : ℕ) (v : List ℕ) → f b ≡ 1 → ((j : ℕ) → j ≢ b → f j ≡ 0) → i ≤ b → b < i + n → length v ≡ n → Codes k v → dot k (map f (range_with_len i n)) v ≡ get_or v (b - i) 0
  unfolding dot
  dot-one f b i zero v one none low high e h = absurd (let z : ⊥ = omega arith in z)
  dot-one f b i (suc n) [] one none low high e h = absurd (let z : ⊥ = omega arith in z)
  dot-one f b i (suc n) (x ∷ xs) one none low high e h = elim (cases_lt i b) [
    | inl later ↦
        let at : suc (b - (i + 1)) ≡ b - i = omega arith in
        ap₂ k.add (ap (λ c. k.mul c x) (none i (λ e. let z : ⊥ = omega arith in z)) ∙ zero-mul k l x (h 0)) (dot-one f b (i + 1) n xs one none (omega arith) (omega arith) (omega arith) (λ j. h (suc j)))
        ∙ l.zero-add (get_or xs (b - (i + 1)) 0) (h (suc (b - (i + 1))))
        ∙ ap (λ j. get_or (x ∷ xs) j 0) at
    | inr here ↦
        let same : i ≡ b = omega arith in
        let at : 0 ≡ b - i = omega arith in
        ap₂ k.add
        (ap (λ c. k.mul c x) (ap f same ∙ one) ∙ l.one-mul x (h 0))
        (dot-none k l f (range_with_len (i + 1) n) xs (λ j. h (suc j)) (λ j d within.
        none (get_or (range_with_len (i + 1) n) j d)
        (λ e. let w = length-range_with_len (i + 1) n in let at = get_or-range_with_len (i + 1) n j d (omega arith) in let z : ⊥ = omega arith in z)))
        ∙ add-zero k l x (h 0)
        ∙ ap (λ j. get_or (x ∷ xs) j 0) at
  ]

  -- The row of data bay j is such a row.
  pub dot-data : (x : Coefficients) (j : ℕ) (v : List ℕ) → j < x.n → Vector k x.n v → dot k (row x j) v ≡ get_or v j 0
  unfolding row
  dot-data x j v d h =
      dot-one (entry x j) j 0 x.n v
      (entry_data x j j d ∙ cond-true (eqb j j) 1 0 (eq-eqb j j refl))
      (λ i away. entry_data x j i d ∙ cond-false (eqb j i) 1 0 (ne_eqb j i (λ e. away (sym e))))
      (omega arith) (omega arith) h.long (vector_codes k l x.n v h)
      ∙ ap (λ i. get_or v i 0) (let e : j - 0 ≡ j = omega arith in e)
