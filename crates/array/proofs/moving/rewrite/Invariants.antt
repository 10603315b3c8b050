use Rattle.std.proofs.Common.{◌+◌}
use Rattle.array.proofs.Moves.{Rewriting}
use Rattle.array.proofs.moving.rewrite.Given as goal

abbrev pub invariant-loop-i : goal.invariant-loop-i
invariant-loop-i g l =
    let x = g.P.Plan.coefficients l.plan in
    Rewriting g.S.Shelf.table g.S.Shelf.sound g.P.F.Field.arithmetic x l.bay l.place l.old l.new (x.n + l.i) l.fn.below l.below
