use Rattle.std.proofs.Common.{◌+◌, Ok, sym, ◌∙◌, subst}
use Rattle.shelf.specs.Calls.{Outcome, refuses_word, refuses_read, Read, Written}
use Rattle.array.proofs.Moves.{check_apart, check_written}
use Rattle.array.proofs.moving.move_check.Goals as goal

pub returns-then-coefficient-eq0 : goal.returns-then-coefficient-eq0
returns-then-coefficient-eq0 g c =
    check_apart g.S.Shelf.table g.S.Shelf.sound g.P.F.Field.arithmetic g.met.P.F.Field.lawful (g.P.Plan.coefficients c.args.plan.now) (g.met.P.Plan.fitting c.args.plan.now) c.args.i c.args.bay c.args.place c.args.old c.args.new
    c.args.below.now (sym c.coefficient.ensures ∙ c.if-coefficient-eq0.true)

pub returns-in-Ok : goal.returns-in-Ok
returns-in-Ok g c =
    let table = g.S.Shelf.table in
    let sound = g.S.Shelf.sound in
    let i = c.args.i in
    let p = c.args.place in
    let word = c.moved_word.result in
    check_written table sound g.P.F.Field.arithmetic g.met.P.F.Field.lawful (g.P.Plan.coefficients c.args.plan.now) (g.met.P.Plan.fitting c.args.plan.now) i c.args.bay p c.args.old c.args.new
    c.args.below.now c.read.new.self c.write.new.self c.in-Ok.check word c.write.result
    (subst (λ n. Outcome table sound c.args.below.now c.read.new.self (refuses_read (n + i) p) (Read (n + i) p) (Ok c.in-Ok.check)) c.data_bays.ensures c.in-Ok.ensures)
    c.moved_word.ensures.value
    (subst (λ n. Outcome table sound c.read.new.self c.write.new.self (refuses_word (n + i) p word) (Written (n + i) p word) c.write.result) c.data_bays.ensures c.write.ensures)
