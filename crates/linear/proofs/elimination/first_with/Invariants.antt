use Rattle.std.proofs.Common.{◌-◌, ◌≤◌, length}
use Rattle.linear.specs.Elimination.{ZeroBefore}
use Rattle.linear.proofs.elimination.first_with.Given as goal

abbrev pub invariant-loop-i : goal.invariant-loop-i
invariant-loop-i g l = (l.i ≤ length l.equations) × ZeroBefore g.F.Field.arithmetic l.column l.equations l.i

abbrev pub decreases-loop-i : goal.decreases-loop-i
decreases-loop-i g l = length l.equations - l.i
