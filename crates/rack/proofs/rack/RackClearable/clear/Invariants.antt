use Rattle.rack.proofs.Clearing.{Clearing}
use Rattle.rack.proofs.rack.RackClearable.clear.Given as goal

abbrev pub invariant-loop-i : goal.invariant-loop-i
invariant-loop-i g l = Clearing g.S.Shelf.table g.S.Shelf.sound l.fn.self.shelves.items l.place l.self.shelves.items l.i
