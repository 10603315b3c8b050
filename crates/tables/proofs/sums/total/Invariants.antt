use Rattle.std.proofs.Common.{◌≡◌, ℕ, ◌^◌, ◌<◌, get_or, take}
use Rattle.tables.specs.declared.cell.Cell.TheVariants.{Told}
use Rattle.tables.specs.Cells.{word}
use Rattle.tables.specs.Sums.{total}
use Rattle.tables.proofs.sums.total.Given as goal

-- the total so far, and that the words so far have 32 bits
abbrev pub invariant-loop-cell : goal.invariant-loop-cell
invariant-loop-cell l = record {
  sum : l.sum ≡ total (take l.cell-index l.cells);
  small : (k : ℕ) → k < l.cell-index → word (get_or l.cells k (Told 0)) < 2 ^ 32;
}
