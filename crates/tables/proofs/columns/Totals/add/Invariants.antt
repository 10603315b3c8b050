use Rattle.std.proofs.Common.{◌≡◌, ℕ, ◌<◌, ◌≤◌, length}
use Rattle.std.specs.List.{slice_get}
use Rattle.tables.specs.Columns.{sums_of, column_at, counted}
use Rattle.tables.proofs.columns.Totals.add.Given as goal

-- the columns before j have counted their cells, and those from j on have not
abbrev pub invariant-loop-j : goal.invariant-loop-j
invariant-loop-j l = record {
  long : length (sums_of l.self) ≡ length (sums_of l.fn.self);
  before : (k : ℕ) → k < l.j → column_at (sums_of l.self) k ≡ counted (column_at (sums_of l.fn.self) k) (slice_get l.cells k);
  after : (k : ℕ) → l.j ≤ k → column_at (sums_of l.self) k ≡ column_at (sums_of l.fn.self) k;
}
