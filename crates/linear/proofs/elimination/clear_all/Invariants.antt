use Rattle.std.proofs.Common.{◌≡◌, ◌++◌, map, take, drop}
use Rattle.linear.specs.Equations.{cleared}
use Rattle.linear.proofs.elimination.clear_all.Given as goal

abbrev pub invariant-loop-equation : goal.invariant-loop-equation
invariant-loop-equation g l =
    l.equation-items ≡ map (cleared g.F.Field.arithmetic l.pivot.column l.pivot.equation) (take l.equation-index l.fn.equations.items) ++ drop l.equation-index l.fn.equations.items
