use Rattle.std.proofs.Common.{arith}
use Rattle.array.proofs.Sweeping.{next_place, all_places}
use Rattle.array.proofs.coded.Array.sweep.Goals as goal

pub loop-i-preserved : goal.loop-i-preserved
loop-i-preserved g c =
    next_place g.S.Shelf.table g.S.Shelf.sound g.P.F.Field.arithmetic g.P.Plan.coefficients c.args.bay c.args.first c.args.self.now c.loop-i.self c.mend.new.self c.loop-i.bytes c.loop-i.i c.mend.result c.answer_byte.result
    (omega (arith, c.loop-i-test.true, c.loop-i.auto.bytes)) c.answer_byte.ensures c.loop-i.invariant (c.mend.ensures.promised, c.mend.ensures.reads)

pub returns : goal.returns
returns g c =
    all_places g.S.Shelf.table g.S.Shelf.sound g.P.F.Field.arithmetic g.P.Plan.coefficients c.args.bay c.args.first c.args.self.now c.loop-i.self c.args.bytes.now c.loop-i.bytes c.loop-i.i
    c.serviced-shape.result.bays c.serviced-shape.result.places c.loop-i.auto.bytes c.loop-i-test.false c.serviced-shape.ensures.bays c.serviced-shape.ensures.places
    c.in_ok-check_bay.ensures c.in_ok-check_run.ensures c.loop-i.invariant
