use Rattle.std.proofs.Common.{◌≡◌, take}
use Rattle.tables.specs.Sums.{sum_of}
use Rattle.tables.proofs.sums.sum_of.Given as goal

-- the sum so far
abbrev pub invariant-loop-number : goal.invariant-loop-number
invariant-loop-number l = l.sum ≡ sum_of (take l.number-index l.numbers)
