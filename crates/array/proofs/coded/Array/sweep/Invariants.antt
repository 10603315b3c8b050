use Rattle.array.proofs.Sweeping.{Sweeping}
use Rattle.array.proofs.coded.Array.sweep.Given as goal

abbrev pub invariant-loop-i : goal.invariant-loop-i
invariant-loop-i g l =
    Sweeping g.S.Shelf.table g.S.Shelf.sound g.P.F.Field.arithmetic g.P.Plan.coefficients l.bay l.first l.fn.self l.self l.bytes l.i
