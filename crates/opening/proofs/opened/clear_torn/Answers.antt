use Rattle.opening.proofs.Places.{opens_torn, opens_kept}
use Rattle.opening.proofs.opened.clear_torn.Goals as goal

pub returns-then-torn : goal.returns-then-torn
returns-then-torn g c =
    opens_torn g.S.Shelf.table g.S.Shelf.sound g.P.F.Field.arithmetic g.met.P.F.Field.lawful (g.P.Plan.coefficients c.args.plan.now) c.args.place c.args.below.now c.agrees.new.below c.agrees.result _ c.eq-torn.result
    c.agrees.ensures.promised c.eq-torn.ensures c.if-torn.true c.clear.new.self c.clear.ensures

pub returns-else-torn : goal.returns-else-torn
returns-else-torn g c =
    opens_kept g.S.Shelf.table g.S.Shelf.sound g.P.F.Field.arithmetic g.met.P.F.Field.lawful (g.P.Plan.coefficients c.args.plan.now) c.args.place c.args.below.now c.agrees.new.below c.agrees.result _ c.eq-torn.result
    c.agrees.ensures.promised c.eq-torn.ensures c.if-torn.false
