use Rattle.linear.proofs.Steps.{Progress}
use Rattle.linear.proofs.elimination.eliminate.Given as goal

abbrev pub invariant-loop-column : goal.invariant-loop-column
invariant-loop-column g l = Progress g.F.Field.arithmetic l.initial.remaining.items l.column l.remaining.items l.pivots.items
