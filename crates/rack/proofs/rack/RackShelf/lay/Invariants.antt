use Rattle.rack.proofs.Laying.{Laying}
use Rattle.rack.proofs.rack.RackShelf.lay.Given as goal

abbrev pub invariant-loop-i : goal.invariant-loop-i
invariant-loop-i g l = Laying g.S.Shelf.table g.S.Shelf.sound g.S.Shelf.lay_bits l.fn.self.shelves.items l.place l.words l.self.shelves.items l.i l.bits
