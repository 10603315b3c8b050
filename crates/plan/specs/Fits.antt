-- The plans of groups and the written plans fit: their coefficients are codes, and 0 outside their range.
use Rattle.std.specs.Prelude.{ℕ, ◌+◌, ◌*◌, ◌%◌, ◌<◌, ◌≤◌, ◌&&◌, List, slice_index, nat_lt, nat_eq}
use Rattle.std.proofs.Common.{⊎_elim, arith, mod-lt}
use Rattle.std.proofs.lemmas.Bool.{cond-false, cond_both, and_left, and_right, le-ltb, ne_eqb}
use Rattle.field.specs.Arithmetic.{Arithmetic, Lawful}
use Rattle.field.specs.Laws.{zero_below, one_below, code}
use Rattle.plan.specs.Bounds.{most_data, most_checks}
use Rattle.plan.specs.Coefficients.{Fitting}
use Rattle.plan.specs.Groups.{groups}
use Rattle.plan.specs.Written.{written}
use Rattle.plan.specs.Powering.{without}

-- zero or one; a remainder by m is none of the numbers from m on
pub groups_fitting : (k : Arithmetic) → Lawful k → (n m : ℕ) → 1 ≤ n → n ≤ most_data → 1 ≤ m → m ≤ most_checks → Fitting k (groups n m)
groups_fitting k l n m n_low n_high m_low m_high = record {
  data_low = n_low;
  data_high = n_high;
  checks_low = m_low;
  checks_high = m_high;
  below = λ i j. cond_both (nat_lt j n && nat_eq (j % m) i) 1 0 (λ y. y < k.order) (λ _. one_below k l) (λ _. zero_below k l);
  outside = λ i j o. cond-false (nat_lt j n && nat_eq (j % m) i) 1 0
      (⊎_elim (λ p. and_right _ _ (ne_eqb (j % m) i (λ e. let d : j % m < m = mod-lt j m_low in let z : ⊥ = omega arith in z))) (λ q. and_left _ _ (le-ltb j n q)) o);
}

-- remainders by the order, or zero
pub written_fitting : (k : Arithmetic) → Lawful k → (n m : ℕ) (table : List ℕ) → 1 ≤ n → n ≤ most_data → 1 ≤ m → m ≤ most_checks → Fitting k (written k n m table)
written_fitting k l n m table n_low n_high m_low m_high = record {
  data_low = n_low;
  data_high = n_high;
  checks_low = m_low;
  checks_high = m_high;
  below = λ i j.
      cond_both (nat_lt i m && nat_lt j n) (slice_index table (most_data * i + j) % k.order) 0 (λ y. y < k.order)
      (λ _. code k l (slice_index table (most_data * i + j))) (λ _. zero_below k l);
  outside = λ i j o. cond-false (nat_lt i m && nat_lt j n) _ _ (without i j m n o);
}
