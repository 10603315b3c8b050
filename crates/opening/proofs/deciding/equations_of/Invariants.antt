use Rattle.opening.specs.Words.{EquationsOf}
use Rattle.opening.proofs.deciding.equations_of.Given as goal

abbrev pub invariant-loop-bay : goal.invariant-loop-bay
invariant-loop-bay g l = EquationsOf g.P.F.Field.arithmetic (g.P.Plan.coefficients l.plan) l.cells l.bay l.equations.items
