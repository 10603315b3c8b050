-- A written plan: the coefficient of data bay j in check i is entry 15 i + j of a table, reduced by the order of its field.
use Rattle.std.specs.Prelude.{ℕ, ◌+◌, ◌*◌, ◌%◌, cond, ◌&&◌, List, map, slice_index, nat_lt}
use Rattle.std.specs.List.{range_with_len}
use Rattle.field.specs.Arithmetic.{Arithmetic}
use Rattle.plan.specs.Bounds.{most_data, most_checks}
use Rattle.plan.specs.Coefficients.{Coefficients}

abbrev pub written : Arithmetic → ℕ → ℕ → List ℕ → Coefficients
written k n m table = record { n = n; m = m; f = λ i j. cond (nat_lt i m && nat_lt j n) (slice_index table (most_data * i + j) % k.order) 0 }

-- a table, and zeros up to the longest
abbrev pub whole_table : List ℕ → List ℕ
whole_table table = map (slice_index table) (range_with_len 0 (most_checks * most_data))
