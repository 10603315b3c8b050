-- The plan of powers fits: its coefficients are codes, and 0 outside their range.
use Rattle.std.specs.Prelude.{◌≡◌, ℕ, zero, suc, ◌+◌, ◌%◌, ◌<◌, ◌≤◌, false, ◌&&◌, ◌⊎◌, nat_lt}
use Rattle.std.proofs.Common.{sym, ◌∙◌, ⊎_elim, add-one, arith}
use Rattle.std.proofs.Math.Path.{ap}
use Rattle.std.proofs.Math.Nat.{mod-eq_of_lt}
use Rattle.std.proofs.lemmas.Bool.{cond-false, cond_both, and_left, and_right, and_parts, ltb-true, le-ltb}
use Rattle.field.specs.Arithmetic.{Arithmetic, Lawful}
use Rattle.field.specs.Laws.{zero_below, one_below}
use Rattle.plan.specs.Bounds.{most_data, most_checks}
use Rattle.plan.specs.Coefficients.{Fitting}
use Rattle.plan.specs.Powers.{power, powers}

-- one of the two tests fails outside the range
pub without : (i j m n : ℕ) → (m ≤ i) ⊎ (n ≤ j) → (nat_lt i m && nat_lt j n) ≡ false
without i j m n = ⊎_elim (λ p. and_left _ _ (le-ltb i m p)) (λ q. and_right _ _ (le-ltb j n q))

module _ (k : Arithmetic) (l : Lawful k) where
  -- powers are codes, by induction on the exponent
  pub power_below : (a i : ℕ) → a < k.order → power k a i < k.order
  unfolding power
  power_below a zero h = one_below k l
  power_below a (suc i) h = l.mul_below a (power k a i) h (power_below a i h)

  -- one more factor, as the product of the field makes it
  pub power_more : (a i all new : ℕ) → a < k.order → all ≡ power k a i → new ≡ k.mul (a % k.order) (all % k.order) → new ≡ power k a (i + 1)
  unfolding power
  power_more a i all new h e en =
      let q = k.order in
      let same : all % q ≡ power k a i = ap (λ y. y % q) e ∙ mod-eq_of_lt (power_below a i h) in
      en ∙ ap (λ y. k.mul y (all % q)) (mod-eq_of_lt h) ∙ ap (k.mul a) same ∙ ap (power k a) (sym (add-one i))

  -- the bases are codes, since there are fewer data bays than codes
  pub base_below : (j n : ℕ) → j < n → n ≤ most_data → j + 1 < k.order
  base_below j n h high = omega (arith, l.order_low)

  -- a power of a code, or zero
  coefficient_below : (i j n m : ℕ) → n ≤ most_data → (powers k n m).f i j < k.order
  coefficient_below i j n m high =
      cond_both (nat_lt i m && nat_lt j n) (power k (j + 1) i) 0 (λ y. y < k.order)
      (λ e. power_below (j + 1) i (base_below j n (ltb-true j n (and_parts _ _ e).1) high))
      (λ _. zero_below k l)

  -- the bounds are those of the plan
  pub powers_fitting : (n m : ℕ) → 1 ≤ n → n ≤ most_data → 1 ≤ m → m ≤ most_checks → Fitting k (powers k n m)
  powers_fitting n m n_low n_high m_low m_high = record {
    data_low = n_low;
    data_high = n_high;
    checks_low = m_low;
    checks_high = m_high;
    below = λ i j. coefficient_below i j n m n_high;
    outside = λ i j o. cond-false (nat_lt i m && nat_lt j n) _ _ (without i j m n o);
  }
