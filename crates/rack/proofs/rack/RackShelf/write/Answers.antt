use Rattle.shelf.specs.Calls.{refuses_word, Written}
use Rattle.layers.proofs.BayCalls.{writes}
use Rattle.rack.proofs.BaysOf.{on_shelf, others_stay}
use Rattle.rack.proofs.rack.RackShelf.write.Goals as goal

pub returns-clause-promised : goal.returns-clause-promised
returns-clause-promised g c =
    on_shelf g.S.Shelf.table g.S.Shelf.sound (λ b. refuses_word b c.args.place c.args.word) (λ b. Written b c.args.place c.args.word) (writes c.args.place c.args.word) c.args.self.now c.args.bay c.in_ok-slot.slot c.in_ok-slot.ensures
    c.index_mut.result.now c.write.new.self c.index_mut.ensures.value c.write.result c.write.ensures

pub returns-clause-aside : goal.returns-clause-aside
returns-clause-aside g c = others_stay g.S.Shelf.table c.args.self.now c.args.bay c.in_ok-slot.slot c.in_ok-slot.ensures c.write.new.self
