-- What a plan means: n data bays, m check bays, and f i j, the coefficient of data bay j in check i, both counted from 0.
use Rattle.std.specs.Prelude.{◌≡◌, ℕ, ◌<◌, ◌≤◌, ◌⊎◌}
use Rattle.field.specs.Arithmetic.{Arithmetic}
use Rattle.plan.specs.Bounds.{most_data, most_checks}

pub record Coefficients : Type 0 where
  pub n : ℕ
  pub m : ℕ
  pub f : ℕ → ℕ → ℕ

-- What holds of every plan over a field: its bounds, and coefficients that are codes, 0 outside their range.
pub record Fitting (k : Arithmetic) (x : Coefficients) : Type 0 where
  pub data_low : 1 ≤ x.n
  pub data_high : x.n ≤ most_data
  pub checks_low : 1 ≤ x.m
  pub checks_high : x.m ≤ most_checks
  pub below : (i j : ℕ) → x.f i j < k.order
  pub outside : (i j : ℕ) → (x.m ≤ i) ⊎ (x.n ≤ j) → x.f i j ≡ 0
