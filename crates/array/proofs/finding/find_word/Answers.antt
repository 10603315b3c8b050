use Rattle.array.proofs.Telling.{own_found, other_found}
use Rattle.array.proofs.finding.find_word.Goals as goal

pub returns-in-Ok : goal.returns-in-Ok
returns-in-Ok g c =
    own_found g.S.Shelf.table g.S.Shelf.sound g.P.F.Field.arithmetic g.met.P.F.Field.lawful (g.P.Plan.coefficients c.args.plan.now) (g.met.P.Plan.fitting c.args.plan.now) c.args.bay c.args.place
    c.args.below.now c.read.new.self c.in-Ok.word c.in-Ok.ensures

pub returns-in-Err : goal.returns-in-Err
returns-in-Err g c =
    other_found g.S.Shelf.table g.S.Shelf.sound g.P.F.Field.arithmetic g.met.P.F.Field.lawful (g.P.Plan.coefficients c.args.plan.now) (g.met.P.Plan.fitting c.args.plan.now) c.args.bay c.args.place
    c.args.below.now c.read.new.self c.told_word.new.below c.in-Err.field-0 c.told_word.result c.in-Err.ensures c.told_word.ensures
