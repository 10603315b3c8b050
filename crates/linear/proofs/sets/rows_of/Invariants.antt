use Rattle.std.proofs.Common.{◌≡◌}
use Rattle.shelf.specs.Calls.{bit}
use Rattle.linear.specs.Sets.{rows_of}
use Rattle.linear.proofs.sets.rows_of.Given as goal

abbrev pub invariant-loop-bay : goal.invariant-loop-bay
invariant-loop-bay g l = l.rows.items ≡ rows_of (g.P.Plan.coefficients l.plan) (bit l.bays) l.bay
