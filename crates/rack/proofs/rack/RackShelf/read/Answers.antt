use Rattle.shelf.specs.Calls.{refuses_read, Read}
use Rattle.layers.proofs.BayCalls.{reads}
use Rattle.rack.proofs.BaysOf.{on_shelf, others_stay}
use Rattle.rack.proofs.rack.RackShelf.read.Goals as goal

pub returns-clause-promised : goal.returns-clause-promised
returns-clause-promised g c =
    on_shelf g.S.Shelf.table g.S.Shelf.sound (λ b. refuses_read b c.args.place) (λ b. Read b c.args.place) (reads c.args.place) c.args.self.now c.args.bay c.in_ok-slot.slot c.in_ok-slot.ensures
    c.index_mut.result.now c.read.new.self c.index_mut.ensures.value c.read.result c.read.ensures

pub returns-clause-aside : goal.returns-clause-aside
returns-clause-aside g c = others_stay g.S.Shelf.table c.args.self.now c.args.bay c.in_ok-slot.slot c.in_ok-slot.ensures c.read.new.self
