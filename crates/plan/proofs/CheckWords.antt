-- All checks of a place, and how they follow the words when each is moved.
use Rattle.std.proofs.Common.{◌≡◌, ℕ, zero, suc, ◌+◌, ◌%◌, ◌<◌, List, [], ◌∷◌, map, get_or, set, sym, refl, ap, ◌∙◌, ap₂, add-one, mod-eq_of_lt}
use Rattle.std.specs.List.{range_with_len}
use Rattle.field.specs.Arithmetic.{Arithmetic, Lawful}
use Rattle.plan.specs.Coefficients.{Coefficients, Fitting}
use Rattle.plan.specs.Rows.{row, Vector, codes, check_on, checks_on, all_moved}
use Rattle.plan.proofs.Dots.{Codes, vector_codes, dot_below}
use Rattle.plan.proofs.Rows.{row-codes, moved_follows}

-- codes count as themselves
pub codes_same : (k : Arithmetic) (v : List ℕ) → Codes k v → codes k v ≡ v
codes_same k [] h = refl
codes_same k (c ∷ cs) h = ap₂ (λ y ys. y ∷ ys) (mod-eq_of_lt (h 0)) (codes_same k cs (λ j. h (suc j)))

module _ (k : Arithmetic) (l : Lawful k) (x : Coefficients) (h : Fitting k x) (v : List ℕ) (hv : Vector k x.n v) where
  -- the checks of a vector are codes
  checks_same_from : (i n : ℕ) → codes k (map (λ i. check_on k x i v) (range_with_len i n)) ≡ map (λ i. check_on k x i v) (range_with_len i n)
  checks_same_from i zero = refl
  checks_same_from i (suc n) =
      ap₂ (λ y ys. y ∷ ys)
      (mod-eq_of_lt (dot_below k l (row x (x.n + i)) v (row-codes k l x h (x.n + i)) (vector_codes k l x.n v hv)))
      (checks_same_from (i + 1) n)

  -- each moved check is the check on the changed vector
  moved_from : (j new : ℕ) → j < x.n → new < k.order → (i n : ℕ) → all_moved k x i j (get_or v j 0) new (map (λ i. check_on k x i v) (range_with_len i n)) ≡ map (λ i. check_on k x i (set v j new)) (range_with_len i n)
  moved_from j new d low i zero = refl
  moved_from j new d low i (suc n) =
      ap₂ (λ y ys. y ∷ ys)
      (sym (moved_follows k l x h i j (check_on k x i v) (get_or v j 0) new low v hv d refl refl))
      (ap (λ s. all_moved k x s j (get_or v j 0) new (map (λ i. check_on k x i v) (range_with_len (i + 1) n))) (sym (add-one i)) ∙ moved_from j new d low (i + 1) n)

  -- so moving the checks gives what computing them afresh gives
  pub moved_afresh : (j new : ℕ) → j < x.n → new < k.order → all_moved k x 0 j (get_or v j 0 % k.order) (new % k.order) (codes k (checks_on k x v)) ≡ checks_on k x (set v j new)
  unfolding checks_on
  moved_afresh j new d low =
      ap (λ y. all_moved k x 0 j y (new % k.order) (codes k (checks_on k x v))) (mod-eq_of_lt (hv.below j d))
      ∙ ap (λ y. all_moved k x 0 j (get_or v j 0) y (codes k (checks_on k x v))) (mod-eq_of_lt low)
      ∙ ap (all_moved k x 0 j (get_or v j 0) new) (checks_same_from 0 x.m)
      ∙ moved_from j new d low 0 x.m
