-- Rows with zeros after the last data bay give what the rows of the plan give.
use Rattle.std.proofs.Common.{◌≡◌, ℕ, zero, suc, ◌+◌, ◌-◌, ◌<◌, ◌≤◌, List, [], ◌∷◌, ◌++◌, map, take, length, replicate, get_or, sym, refl, ap, ◌∙◌, subst, inl, inr, eqb, arith}
use Rattle.std.specs.List.{range_with_len}
use Rattle.std.proofs.lemmas.Bool.{cases_lt, cond-false, ne_eqb}
use Rattle.std.proofs.lemmas.List.{length-take-le, get_or-take, length-append, length-replicate, get_or_append_left, get_or-append_right, get_or-replicate, take-append-le, take_all}
use Rattle.std.proofs.lemmas.List.FromFn.{length-range_with_len, get_or-range_with_len}
use Rattle.field.specs.Arithmetic.{Arithmetic, Lawful}
use Rattle.field.specs.Laws.{zero_below}
use Rattle.plan.specs.Bounds.{most_data}
use Rattle.plan.specs.Coefficients.{Coefficients, Fitting}
use Rattle.plan.specs.Rows.{entry, row, whole_row, dot, Vector}
use Rattle.plan.proofs.Dots.{Codes}
use Rattle.plan.proofs.Rows.{entry_data, entry_check}
use Rattle.plan.proofs.Sums.{dot-none}

module _ (k : Arithmetic) (l : Lawful k) where
  -- columns that are zero from the n-th on add nothing, so the words there may be left out
  dot-short : (f : ℕ → ℕ) (i n m : ℕ) (z : List ℕ) → n ≤ m → Codes k z → ((j : ℕ) → i + n ≤ j → f j ≡ 0)
      → dot k (map f (range_with_len i n)) (take n z) ≡ dot k (map f (range_with_len i m)) z
  unfolding dot
  dot-short f i zero m z b h e =
      sym (dot-none k l f (range_with_len i m) z h
      (λ n d b. e (get_or (range_with_len i m) n d) (let w = length-range_with_len i m in let at = get_or-range_with_len i m n d (omega arith) in omega arith)))
  dot-short f i (suc n) zero z b h e = absurd (let z : ⊥ = omega arith in z)
  dot-short f i (suc n) (suc m) [] b h e = refl
  dot-short f i (suc n) (suc m) (x ∷ xs) b h e =
      ap (k.add (k.mul (f i) x)) (dot-short f (i + 1) n m xs (omega arith) (λ j. h (suc j)) (λ j b. e j (omega arith)))

  module _ (x : Coefficients) (h : Fitting k x) where
    -- nothing stands in the columns after the last data bay
    entry_past : (b j : ℕ) → x.n ≤ j → entry x b j ≡ 0
    entry_past b j p = elim (cases_lt b x.n) [
      | inl d ↦ entry_data x b j d ∙ cond-false (eqb b j) 1 0 (ne_eqb b j (λ e. let z : ⊥ = omega arith in z))
      | inr d ↦
          let back : x.n + (b - x.n) ≡ b = omega arith in
          ap (λ b. entry x b j) (sym back) ∙ entry_check x (b - x.n) j ∙ h.outside (b - x.n) j (inr p)
    ]

    -- the whole row on a vector is the row on the front of the vector
    pub dot-front : (b : ℕ) (z : List ℕ) → Codes k z → dot k (row x b) (take x.n z) ≡ dot k (whole_row x b) z
    unfolding row
    dot-front b z hz =
        dot-short (entry x b) 0 x.n most_data z h.data_high hz (λ j p. entry_past b j (omega arith))

    -- the front of a vector of the most columns is a data vector
    pub front_vector : (z : List ℕ) → Vector k most_data z → Vector k x.n (take x.n z)
    front_vector z hz = record {
      long = length-take-le x.n z (let w = h.data_high in let v = hz.long in omega arith);
      below = λ j d. subst (λ (y : ℕ). y < k.order) (sym (get_or-take x.n z j 0 d)) (hz.below j (let w = h.data_high in omega arith));
    }

    -- the zeros after a data vector
    abbrev pub none : List ℕ
    none = replicate (most_data - x.n) 0

    none-length : length none ≡ most_data - x.n
    none-length = length-replicate (most_data - x.n) 0

    none_at : (i : ℕ) → i < most_data - x.n → get_or none i 0 ≡ 0
    none_at i d = get_or-replicate (most_data - x.n) i 0 0 d

    -- a data vector with zeros after it
    abbrev pub padded : List ℕ → List ℕ
    padded v = v ++ none

    pub padded_vector : (v : List ℕ) → Vector k x.n v → Vector k most_data (padded v)
    padded_vector v hv = record {
      long = length-append v none ∙ (let w = hv.long in let r = none-length in let b = h.data_high in omega arith);
      below = λ j d. elim (cases_lt j x.n) [
        | inl i ↦ subst (λ (y : ℕ). y < k.order) (sym (get_or_append_left v none 0 j (let w = hv.long in omega arith))) (hv.below j i)
        | inr o ↦
            subst (λ (y : ℕ). y < k.order) (sym (get_or-append_right v none x.n j 0 hv.long o ∙ none_at (j - x.n) (omega arith))) (zero_below k l)
      ];
    }

    -- whose front is the data vector
    pub padded_front : (v : List ℕ) → Vector k x.n v → take x.n (padded v) ≡ v
    padded_front v hv = take-append-le x.n v none (let w = hv.long in omega arith) ∙ take_all x.n v (let w = hv.long in omega arith)
