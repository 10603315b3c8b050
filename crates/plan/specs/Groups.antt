-- The plan of groups: data bay j is in check j mod m, with coefficient 1.
use Rattle.std.specs.Prelude.{ℕ, ◌%◌, cond, ◌&&◌, ◌==◌, nat_lt}
use Rattle.plan.specs.Coefficients.{Coefficients}

abbrev pub groups : ℕ → ℕ → Coefficients
groups n m = record { n = n; m = m; f = λ i j. cond (nat_lt j n && (j % m == i)) 1 0 }
