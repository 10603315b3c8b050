use Rattle.std.proofs.Common.{refl}
use Rattle.std.proofs.lemmas.Result.{err_from_is_err_and}
use Rattle.shelf.specs.Calls.{refuses_read, Read}
use Rattle.shelf.proofs.Settling.{tested_read}
use Rattle.layers.proofs.Halting.{stoppable_read}
use Rattle.layers.proofs.Counting.{found_stopped, found_running}
use Rattle.layers.proofs.drill.DrillShelf.read.Goals as goal

pub returns-in_err-count_call-clause-promised : goal.returns-in_err-count_call-clause-promised
returns-in_err-count_call-clause-promised g c =
    let none = tested_read (g.S.Shelf.table c.args.self.now.shelf) _ _ c.shape.ensures c.from.ensures c.args.bay c.args.place c.in_ok-check_cell.ensures in
    let p = err_from_is_err_and c.from_residual-in_err-count_call.result c.from_residual-in_err-count_call.ensures.1 in
    rw (p.1, p.2)
    (found_stopped g.S.Shelf.table g.S.Shelf.sound c.args.self.now (record { shelf = c.args.self.now.shelf; schedule = c.count_call.new.self }) c.args.bay (refuses_read c.args.bay c.args.place) (Read c.args.bay c.args.place) (stoppable_read c.args.bay c.args.place) none
    c.in_err-count_call.field-0.0 c.in_err-count_call.ensures refl)

pub returns-clause-promised : goal.returns-clause-promised
returns-clause-promised g c =
    let none = tested_read (g.S.Shelf.table c.args.self.now.shelf) _ _ c.shape.ensures c.from.ensures c.args.bay c.args.place c.in_ok-check_cell.ensures in
    found_running g.S.Shelf.table g.S.Shelf.sound c.args.self.now (record { shelf = c.read.new.self; schedule = c.count_call.new.self }) c.args.bay (refuses_read c.args.bay c.args.place) (Read c.args.bay c.args.place) (stoppable_read c.args.bay c.args.place) none
    c.in_ok-count_call.ensures c.read.result c.read.ensures
