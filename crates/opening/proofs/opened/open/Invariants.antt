use Rattle.opening.proofs.Places.{Going}
use Rattle.opening.proofs.opened.open.Given as goal

abbrev pub invariant-loop-place : goal.invariant-loop-place
invariant-loop-place g l =
    Going g.S.Shelf.table g.S.Shelf.sound g.P.F.Field.arithmetic (g.P.Plan.coefficients l.fn.plan) l.places l.fn.below l.below l.torn.items l.place
