-- Sums and differences of data vectors, and what a row gives on them.
use Rattle.std.proofs.Common.{◌≡◌, ℕ, suc, ◌<◌, List, [], ◌∷◌, map, length, get_or, set, inl, inr, sym, refl, ap, ap₂, ◌∙◌, subst, arith}
use Rattle.std.specs.List.{range_with_len}
use Rattle.std.proofs.lemmas.List.FromFn.{length-map-range_with_len, get_or-map-range_with_len, fill_by_all}
use Rattle.std.proofs.lemmas.List.{length-set, get_or-set_same, get_or-set_other}
use Rattle.std.proofs.lemmas.Bool.{cases_eq}
use Rattle.field.specs.Arithmetic.{Arithmetic, Lawful}
use Rattle.field.specs.Laws.{zero_below, one_below}
use Rattle.plan.specs.Rows.{dot, Vector}
use Rattle.plan.proofs.Dots.{Codes, vector_codes, dot_below}
use Rattle.plan.proofs.Ring.{add-cancel}
use Rattle.plan.proofs.Sums.{dot-less}

-- a list by its entries
elements : (v : List ℕ) (n : ℕ) → length v ≡ n → v ≡ map (λ j. get_or v j 0) (range_with_len 0 n)
elements v n e = fill_by_all (λ j. get_or v j 0) v n 0 e (λ j l. refl)

module _ (k : Arithmetic) (l : Lawful k) where
  -- a row and a vector may change places
  pub dot-comm : (r v : List ℕ) → Codes k r → Codes k v → dot k r v ≡ dot k v r
  unfolding dot
  dot-comm [] [] hr hv = refl
  dot-comm [] (v ∷ vs) hr hv = refl
  dot-comm (c ∷ cs) [] hr hv = refl
  dot-comm (c ∷ cs) (v ∷ vs) hr hv =
      ap₂ k.add (l.mul_comm c v (hr 0) (hv 0)) (dot-comm cs vs (λ j. hr (suc j)) (λ j. hv (suc j)))

  module _ (n : ℕ) where
    -- entry by entry
    abbrev pub plus : List ℕ → List ℕ → List ℕ
    plus v u = map (λ j. k.add (get_or v j 0) (get_or u j 0)) (range_with_len 0 n)

    abbrev pub less : List ℕ → List ℕ → List ℕ
    less v u = map (λ j. k.sub (get_or v j 0) (get_or u j 0)) (range_with_len 0 n)

    -- such a list is a data vector where its entries are codes
    made_vector : (f : ℕ → ℕ) → ((j : ℕ) → f j < k.order) → Vector k n (map f (range_with_len 0 n))
    made_vector f low = record {
      long = length-map-range_with_len f 0 n;
      below = λ j d. subst (λ (y : ℕ). y < k.order) (sym (get_or-map-range_with_len f 0 n j j 0 d (omega arith))) (low j);
    }

    -- a vector stays one when a code is put into it
    pub vector-set : (v : List ℕ) (j new : ℕ) → new < k.order → Vector k n v → Vector k n (set v j new)
    vector-set v j new low h = record {
      long = length-set v j new ∙ h.long;
      below = λ i b. elim (cases_eq i j) [
        | inl e ↦ subst (λ (y : ℕ). y < k.order) (sym (ap (λ i. get_or (set v j new) i 0) e ∙ get_or-set_same v j new 0 (let w = h.long in omega arith))) low
        | inr ne ↦ subst (λ (y : ℕ). y < k.order) (sym (get_or-set_other v j i new 0 ne)) (h.below i b)
      ];
    }

    module _ (v u : List ℕ) (hv : Vector k n v) (hu : Vector k n u) where
      cv : Codes k v
      cv = vector_codes k l n v hv

      cu : Codes k u
      cu = vector_codes k l n u hu

      pub plus_vector : Vector k n (plus v u)
      plus_vector = made_vector (λ j. k.add (get_or v j 0) (get_or u j 0)) (λ j. l.add_below _ _ (cv j) (cu j))

      pub less_vector : Vector k n (less v u)
      less_vector = made_vector (λ j. k.sub (get_or v j 0) (get_or u j 0)) (λ j. l.sub_below _ _ (cv j) (cu j))

      -- what a row gives where the entries of `first` and `second` add up to those of `sum`
      dot-sum : (first second sum : ℕ → ℕ) → ((j : ℕ) → first j < k.order) → ((j : ℕ) → second j < k.order) → ((j : ℕ) → sum j < k.order) → ((j : ℕ) → k.add (first j) (second j) ≡ sum j)
          → (r : List ℕ) → Codes k r
          → k.add (dot k r (map first (range_with_len 0 n))) (dot k r (map second (range_with_len 0 n))) ≡ dot k r (map sum (range_with_len 0 n))
      dot-sum first second sum h1 h2 h3 e r hr =
          let js = range_with_len 0 n in
          let c1 = vector_codes k l n _ (made_vector first h1) in
          let c2 = vector_codes k l n _ (made_vector second h2) in
          let c3 = vector_codes k l n _ (made_vector sum h3) in
          ap₂ k.add (dot-comm r (map first js) hr c1) (dot-comm r (map second js) hr c2)
          ∙ ap (k.add (dot k (map first js) r)) (sym (l.one-mul (dot k (map second js) r) (dot_below k l (map second js) r c2 hr)))
          ∙ dot-less k l 1 first second sum (one_below k l) h1 h2 (λ j. ap (k.add (first j)) (l.one-mul (second j) (h2 j)) ∙ e j) js r hr
          ∙ dot-comm (map sum js) r c3 hr

      -- what a row gives on a sum is the sum of what it gives
      pub dot-plus : (r : List ℕ) → Codes k r → dot k r (plus v u) ≡ k.add (dot k r v) (dot k r u)
      dot-plus r hr =
          sym (ap₂ (λ a b. k.add (dot k r a) (dot k r b)) (elements v n hv.long) (elements u n hu.long)
          ∙ dot-sum (λ j. get_or v j 0) (λ j. get_or u j 0) (λ j. k.add (get_or v j 0) (get_or u j 0)) cv cu (λ j. l.add_below _ _ (cv j) (cu j)) (λ j. refl) r hr)

      -- what it gives on a difference adds up with the subtrahend's to the minuend's
      pub dot-minus : (r : List ℕ) → Codes k r → k.add (dot k r (less v u)) (dot k r u) ≡ dot k r v
      dot-minus r hr =
          ap (λ b. k.add (dot k r (less v u)) (dot k r b)) (elements u n hu.long)
          ∙ dot-sum (λ j. k.sub (get_or v j 0) (get_or u j 0)) (λ j. get_or u j 0) (λ j. get_or v j 0) (λ j. l.sub_below _ _ (cv j) (cu j)) cu cv (λ j. l.sub-add _ _ (cv j) (cu j)) r hr
          ∙ ap (dot k r) (sym (elements v n hv.long))

      -- so where a row gives the same on both, it gives zero on their difference,
      pub dot-same : (r : List ℕ) → Codes k r → dot k r v ≡ dot k r u → dot k r (less v u) ≡ 0
      dot-same r hr e =
          let a = dot_below k l r (less v u) hr (vector_codes k l n _ less_vector) in
          let b = dot_below k l r u hr cu in
          sum-zero (dot k r (less v u)) (dot k r u) a b (dot-minus r hr ∙ e)
        where
          sum-zero : (a b : ℕ) → a < k.order → b < k.order → k.add a b ≡ b → a ≡ 0
          sum-zero a b ha hb e = add-cancel k l a 0 b ha (zero_below k l) hb (e ∙ sym (l.zero-add b hb))

      -- and conversely
      pub dot-equal : (r : List ℕ) → Codes k r → dot k r (less v u) ≡ 0 → dot k r v ≡ dot k r u
      dot-equal r hr e = sym (dot-minus r hr) ∙ ap (λ a. k.add a (dot k r u)) e ∙ l.zero-add (dot k r u) (dot_below k l r u hr cu)
