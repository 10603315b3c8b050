use Rattle.std.proofs.lemmas.Result.{err_from_is_err_and}
use Rattle.array.proofs.Mends.{patched_cell, stopped_cell, lost_cell}
use Rattle.array.proofs.service.patch_told.Goals as goal

pub returns-in_err-word-clause-promised : goal.returns-in_err-word-clause-promised
returns-in_err-word-clause-promised g c =
    let q = err_from_is_err_and c.from_residual.result c.from_residual.ensures.1 in
    rw (q.1, q.2)
    (lost_cell g.S.Shelf.table g.S.Shelf.sound g.P.F.Field.arithmetic g.met.P.F.Field.lawful (g.P.Plan.coefficients c.args.plan.now) (g.met.P.Plan.fitting c.args.plan.now) c.args.bay c.args.place
    c.args.below.now c.told_word.new.below c.in_err-word.field-0.0 c.in_err-word.ensures)

pub returns-in-Ok-clause-promised : goal.returns-in-Ok-clause-promised
returns-in-Ok-clause-promised g c =
    patched_cell g.S.Shelf.table g.S.Shelf.sound g.P.F.Field.arithmetic g.met.P.F.Field.lawful (g.P.Plan.coefficients c.args.plan.now) (g.met.P.Plan.fitting c.args.plan.now) c.args.bay c.args.place
    c.args.below.now c.told_word.new.below c.patch.new.self c.in_ok-word.word c.in_ok-word.ensures c.in-Ok.ensures

pub returns-in-Err-clause-promised : goal.returns-in-Err-clause-promised
returns-in-Err-clause-promised g c =
    stopped_cell g.S.Shelf.table g.S.Shelf.sound g.P.F.Field.arithmetic g.met.P.F.Field.lawful (g.P.Plan.coefficients c.args.plan.now) (g.met.P.Plan.fitting c.args.plan.now) c.args.bay c.args.place
    c.args.below.now c.told_word.new.below c.patch.new.self c.in_ok-word.word c.in-Err.field-0 c.in_ok-word.ensures c.in-Err.ensures
