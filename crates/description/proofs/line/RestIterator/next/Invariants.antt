use Rattle.std.proofs.Common.{◌≡◌, length}
use Rattle.description.specs.Cuts.{lines_left}
use Rattle.description.proofs.line.RestIterator.next.Given as goal

-- only lines that say nothing were taken
abbrev pub invariant-loop-self : goal.invariant-loop-self
invariant-loop-self l = lines_left l.self ≡ lines_left l.fn.self

abbrev pub decreases-loop-self : goal.decreases-loop-self
decreases-loop-self l = length l.self.text.now
