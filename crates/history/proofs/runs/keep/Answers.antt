use Rattle.std.proofs.Common.{sym}
use Rattle.history.specs.Book.{enter}
use Rattle.history.specs.Laws.{ShelfLaw, ShelfChange}
use Rattle.history.specs.Runs.{Stands}
use Rattle.history.proofs.Chains.{run_more, run_all, ran_all}
use Rattle.history.proofs.Shelfwise.{shelf_step}
use Rattle.history.proofs.runs.keep.Goals as goal

pub loop-i-preserved : goal.loop-i-preserved
loop-i-preserved g c =
    let table = g.S.Shelf.table in
    let sound = g.S.Shelf.sound in
    run_more enter table ShelfLaw ShelfChange (λ book. Stands table sound book c.args.shelf.now) c.args.shelf.now c.args.calls.now
    (λ book. Stands table sound book c.loop-i.shelf) (λ book. Stands table sound book c.shelf_turn.new.shelf) c.loop-i.shelf c.shelf_turn.new.shelf c.loop-i.i c.loop-i.answers c.index-calls-i.result c.shelf_turn.result
    c.loop-i-test.true (sym c.index-calls-i.is) c.loop-i.invariant
    (λ book stands.
    let (same, law, change, ordered, backed) = shelf_step table sound c.loop-i.shelf c.shelf_turn.new.shelf c.index-calls-i.result c.shelf_turn.result c.shelf_turn.ensures book stands in
    (change, law, (ordered, backed)))

pub returns : goal.returns
returns g c =
    let table = g.S.Shelf.table in
    let sound = g.S.Shelf.sound in
    ran_all c.args.calls.now c.args.answers.now c.loop-i.answers c.args.shelf.now c.loop-i.shelf _ c.if-calls-answers.false
    (run_all enter table ShelfLaw ShelfChange (λ book. Stands table sound book c.args.shelf.now) c.args.shelf.now c.args.calls.now
    (λ book. Stands table sound book c.loop-i.shelf) c.loop-i.shelf c.loop-i.i c.loop-i.answers c.loop-i-test.false c.loop-i.invariant)
