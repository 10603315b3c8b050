-- The plan of powers: the coefficient of data bay j in check i is (j + 1) to the i.
use Rattle.std.specs.Prelude.{ℕ, zero, suc, ◌+◌, cond, ◌&&◌, nat_lt}
use Rattle.field.specs.Arithmetic.{Arithmetic}
use Rattle.plan.specs.Coefficients.{Coefficients}

-- a to the i; power 0 is one
unfoldable pub power : Arithmetic → ℕ → ℕ → ℕ
power k a zero = 1
power k a (suc i) = k.mul a (power k a i)

abbrev pub powers : Arithmetic → ℕ → ℕ → Coefficients
powers k n m = record { n = n; m = m; f = λ i j. cond (nat_lt i m && nat_lt j n) (power k (j + 1) i) 0 }
