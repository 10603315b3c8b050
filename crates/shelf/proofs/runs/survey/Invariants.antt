use Rattle.shelf.proofs.Surveying.{Surveying}
use Rattle.shelf.proofs.runs.survey.Given as goal

abbrev pub invariant-loop-k : goal.invariant-loop-k
invariant-loop-k g l =
    Surveying g.S.Shelf.table g.S.Shelf.sound l.shape.bays l.first l.initial.shelf l.shelf l.initial.list l.list l.k l.found
