use Rattle.history.specs.Book.{enter}
use Rattle.history.specs.Laws.{ShelfLaw, ShelfChange}
use Rattle.history.specs.Runs.{Stands}
use Rattle.history.proofs.Chains.{RunSoFar}
use Rattle.history.proofs.runs.keep.Given as goal

abbrev pub invariant-loop-i : goal.invariant-loop-i
invariant-loop-i g l =
    let table = g.S.Shelf.table in
    let sound = g.S.Shelf.sound in
    RunSoFar enter table ShelfLaw ShelfChange (λ book. Stands table sound book l.fn.shelf) (λ book. Stands table sound book l.shelf) l.fn.shelf l.shelf l.i l.calls l.answers
