use Rattle.std.proofs.Common.{Err, sym, ap, ◌∙◌, subst}
use Rattle.std.proofs.lemmas.Result.{err_from_is_err_and}
use Rattle.shelf.proofs.Settling.{tested_word}
use Rattle.shelf.specs.Calls.{refuses_word}
use Rattle.array.specs.Changes.{WriteBelow}
use Rattle.array.specs.Tables.{array_table, Beneath}
use Rattle.array.proofs.Writing.{lost_promised, lost_below, kept_promised, kept_below}
use Rattle.array.proofs.coded.ArrayShelf.write.Goals as goal

pub returns-in_err-old-clause-promised : goal.returns-in_err-old-clause-promised
returns-in_err-old-clause-promised g c =
    let t = array_table g.S.Shelf.table g.P.F.Field.arithmetic g.P.Plan.coefficients c.args.self.now in
    let none = tested_word t _ _ c.shape.ensures.promised c.from.ensures c.args.bay c.args.place c.args.word c.in_ok-check_word.ensures in
    let q = err_from_is_err_and c.from_residual-in_err-old.result c.from_residual-in_err-old.ensures.1 in
    rw (q.1, q.2)
    (lost_promised g.S.Shelf.table g.S.Shelf.sound g.P.F.Field.arithmetic g.met.P.F.Field.lawful g.P.Plan.coefficients c.args.self.now (g.met.P.Plan.fitting c.args.self.now.plan) c.args.bay c.args.place c.args.word none
    c.find_word.new.below c.in_err-old.field-0.0 c.in_err-old.ensures)

pub returns-in_err-old-clause-below : goal.returns-in_err-old-clause-below
returns-in_err-old-clause-below g c =
    let t = array_table g.S.Shelf.table g.P.F.Field.arithmetic g.P.Plan.coefficients c.args.self.now in
    let none = tested_word t _ _ c.shape.ensures.promised c.from.ensures c.args.bay c.args.place c.args.word c.in_ok-check_word.ensures in
    let q = err_from_is_err_and c.from_residual-in_err-old.result c.from_residual-in_err-old.ensures.1 in
    subst (λ r. Beneath g.S.Shelf.table g.S.Shelf.sound g.P.F.Field.arithmetic g.P.Plan.coefficients c.args.self.now (record { below = c.find_word.new.below; plan = c.args.self.now.plan }) (refuses_word c.args.bay c.args.place c.args.word) (WriteBelow c.args.bay c.args.place c.args.word r))
    (sym (q.1 ∙ ap Err q.2))
    (lost_below g.S.Shelf.table g.S.Shelf.sound g.P.F.Field.arithmetic g.met.P.F.Field.lawful g.P.Plan.coefficients c.args.self.now (g.met.P.Plan.fitting c.args.self.now.plan) c.args.bay c.args.place c.args.word none
    c.find_word.new.below c.in_err-old.field-0.0 c.in_err-old.ensures)

pub returns-clause-promised : goal.returns-clause-promised
returns-clause-promised g c =
    let t = array_table g.S.Shelf.table g.P.F.Field.arithmetic g.P.Plan.coefficients c.args.self.now in
    let none = tested_word t _ _ c.shape.ensures.promised c.from.ensures c.args.bay c.args.place c.args.word c.in_ok-check_word.ensures in
    kept_promised g.S.Shelf.table g.S.Shelf.sound g.P.F.Field.arithmetic g.met.P.F.Field.lawful g.P.Plan.coefficients c.args.self.now (g.met.P.Plan.fitting c.args.self.now.plan) c.args.bay c.args.place c.args.word none
    c.find_word.new.below c.rewrite.new.below c.in_ok-old.old c.in_ok-old.ensures c.rewrite.ensures

pub returns-clause-below : goal.returns-clause-below
returns-clause-below g c =
    let t = array_table g.S.Shelf.table g.P.F.Field.arithmetic g.P.Plan.coefficients c.args.self.now in
    let none = tested_word t _ _ c.shape.ensures.promised c.from.ensures c.args.bay c.args.place c.args.word c.in_ok-check_word.ensures in
    kept_below g.S.Shelf.table g.S.Shelf.sound g.P.F.Field.arithmetic g.met.P.F.Field.lawful g.P.Plan.coefficients c.args.self.now (g.met.P.Plan.fitting c.args.self.now.plan) c.args.bay c.args.place c.args.word none
    c.find_word.new.below c.rewrite.new.below c.in_ok-old.old c.in_ok-old.ensures c.rewrite.ensures
