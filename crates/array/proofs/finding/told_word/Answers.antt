use Rattle.array.proofs.Telling.{told_found}
use Rattle.array.proofs.finding.told_word.Goals as goal

pub returns : goal.returns
returns g c =
    told_found g.S.Shelf.table g.S.Shelf.sound g.P.F.Field.arithmetic g.met.P.F.Field.lawful (g.P.Plan.coefficients c.args.plan.now) (g.met.P.Plan.fitting c.args.plan.now) c.args.bay c.args.place
    c.args.below.now c.held_words-equations.new.below c.held_words-equations.result.items c.row.result c.told.result c.ok_or.result
    c.held_words-equations.ensures c.row.ensures c.told.ensures c.ok_or.ensures.value
