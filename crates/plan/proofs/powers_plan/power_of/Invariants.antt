use Rattle.std.proofs.Common.{◌≡◌}
use Rattle.plan.specs.Powers.{power}
use Rattle.plan.proofs.powers_plan.power_of.Given as goal

abbrev pub invariant-loop : goal.invariant-loop
invariant-loop g l = l.all ≡ power g.F.Field.arithmetic l.base l.counter
