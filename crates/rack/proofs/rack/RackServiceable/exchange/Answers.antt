use Rattle.shelf.specs.Calls.{refuses_exchange, Exchanged}
use Rattle.layers.proofs.BayCalls.{exchanges}
use Rattle.rack.proofs.BaysOf.{on_shelf, others_stay}
use Rattle.rack.proofs.rack.RackServiceable.exchange.Goals as goal

pub returns-clause-promised : goal.returns-clause-promised
returns-clause-promised g c =
    on_shelf g.S.Shelf.table g.S.Shelf.sound refuses_exchange Exchanged exchanges c.args.self.now c.args.bay c.in_ok-slot.slot c.in_ok-slot.ensures
    c.index_mut.result.now c.exchange.new.self c.index_mut.ensures.value c.exchange.result c.exchange.ensures

pub returns-clause-aside : goal.returns-clause-aside
returns-clause-aside g c = others_stay g.S.Shelf.table c.args.self.now c.args.bay c.in_ok-slot.slot c.in_ok-slot.ensures c.exchange.new.self
