use Rattle.array.proofs.Mends.{whole_cell, later_mend}
use Rattle.array.proofs.service.mend_cell.Goals as goal

pub returns-in-Ok-clause-promised : goal.returns-in-Ok-clause-promised
returns-in-Ok-clause-promised g c =
    whole_cell g.S.Shelf.table g.S.Shelf.sound g.P.F.Field.arithmetic g.met.P.F.Field.lawful (g.P.Plan.coefficients c.args.plan.now) (g.met.P.Plan.fitting c.args.plan.now) c.args.bay c.args.place
    c.args.below.now c.read.new.self c.in-Ok.field-0 c.in-Ok.ensures

pub returns-in-Err-clause-promised : goal.returns-in-Err-clause-promised
returns-in-Err-clause-promised g c =
    later_mend g.S.Shelf.table g.S.Shelf.sound g.P.F.Field.arithmetic g.met.P.F.Field.lawful (g.P.Plan.coefficients c.args.plan.now) (g.met.P.Plan.fitting c.args.plan.now) c.args.bay c.args.place
    c.args.below.now c.read.new.self c.patch_told.new.below c.in-Err.field-0 c.patch_told.result c.in-Err.ensures c.patch_told.ensures.promised
