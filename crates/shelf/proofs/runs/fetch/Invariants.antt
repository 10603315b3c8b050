use Rattle.shelf.proofs.Fetching.{Fetching}
use Rattle.shelf.proofs.runs.fetch.Given as goal

abbrev pub invariant-loop-i : goal.invariant-loop-i
invariant-loop-i g l =
    Fetching g.S.Shelf.table g.S.Shelf.sound l.bay l.first l.initial.shelf l.shelf l.initial.words l.words l.initial.marks l.marks l.i l.found
