use Rattle.opening.specs.Words.{ReadsPlace}
use Rattle.opening.proofs.reading.read_place.Given as goal

abbrev pub invariant-loop-bay : goal.invariant-loop-bay
invariant-loop-bay g l = ReadsPlace g.S.Shelf.table g.S.Shelf.sound l.place l.bay l.initial.below l.below l.cells.items
