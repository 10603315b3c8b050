use Rattle.std.proofs.Common.{refl}
use Rattle.std.proofs.lemmas.Result.{err_from_is_err_and}
use Rattle.shelf.specs.Calls.{refuses_word, Written}
use Rattle.shelf.proofs.Settling.{tested_word}
use Rattle.layers.proofs.Halting.{stoppable_write}
use Rattle.layers.proofs.Counting.{found_stopped, found_running}
use Rattle.layers.proofs.drill.DrillShelf.write.Goals as goal

pub returns-in_err-count_call-clause-promised : goal.returns-in_err-count_call-clause-promised
returns-in_err-count_call-clause-promised g c =
    let none = tested_word (g.S.Shelf.table c.args.self.now.shelf) _ _ c.shape.ensures c.from.ensures c.args.bay c.args.place c.args.word c.in_ok-check_word.ensures in
    let p = err_from_is_err_and c.from_residual-in_err-count_call.result c.from_residual-in_err-count_call.ensures.1 in
    rw (p.1, p.2)
    (found_stopped g.S.Shelf.table g.S.Shelf.sound c.args.self.now (record { shelf = c.args.self.now.shelf; schedule = c.count_call.new.self }) c.args.bay (refuses_word c.args.bay c.args.place c.args.word) (Written c.args.bay c.args.place c.args.word) (stoppable_write c.args.bay c.args.place c.args.word) none
    c.in_err-count_call.field-0.0 c.in_err-count_call.ensures refl)

pub returns-clause-promised : goal.returns-clause-promised
returns-clause-promised g c =
    let none = tested_word (g.S.Shelf.table c.args.self.now.shelf) _ _ c.shape.ensures c.from.ensures c.args.bay c.args.place c.args.word c.in_ok-check_word.ensures in
    found_running g.S.Shelf.table g.S.Shelf.sound c.args.self.now (record { shelf = c.write.new.self; schedule = c.count_call.new.self }) c.args.bay (refuses_word c.args.bay c.args.place c.args.word) (Written c.args.bay c.args.place c.args.word) (stoppable_write c.args.bay c.args.place c.args.word) none
    c.in_ok-count_call.ensures c.write.result c.write.ensures
