use Rattle.shelf.specs.Calls.{refuses_exchange, Exchanged}
use Rattle.layers.proofs.Halves.{on_first, on_second, aside_first, aside_second}
use Rattle.layers.proofs.BayCalls.{exchanges}
use Rattle.layers.proofs.pair.PairServiceable.exchange.Goals as goal

pub returns-in-First-clause-promised : goal.returns-in-First-clause-promised
returns-in-First-clause-promised g c =
    on_first g.A.Shelf.table g.A.Shelf.sound g.B.Shelf.table g.B.Shelf.sound refuses_exchange Exchanged exchanges c.args.self.now c.args.bay c.in_ok-half.field-0 c.in_ok-half.ensures
    c.in-First.is c.exchange.new.self c.exchange.result c.exchange.ensures

pub returns-in-Second-clause-promised : goal.returns-in-Second-clause-promised
returns-in-Second-clause-promised g c =
    on_second g.A.Shelf.table g.A.Shelf.sound g.B.Shelf.table g.B.Shelf.sound refuses_exchange Exchanged exchanges c.args.self.now c.args.bay c.in_ok-half.field-0 c.in_ok-half.ensures
    c.in-Second.bay c.in-Second.is c.exchange-in-Second.new.self c.exchange-in-Second.result c.exchange-in-Second.ensures

pub returns-in-First-clause-aside : goal.returns-in-First-clause-aside
returns-in-First-clause-aside g c =
    aside_first g.A.Shelf.table g.B.Shelf.table c.args.self.now c.args.bay c.in_ok-half.field-0 c.in_ok-half.ensures c.in-First.is c.exchange.new.self

pub returns-in-Second-clause-aside : goal.returns-in-Second-clause-aside
returns-in-Second-clause-aside g c =
    aside_second g.A.Shelf.table g.B.Shelf.table c.args.self.now c.args.bay c.in_ok-half.field-0 c.in_ok-half.ensures c.in-Second.bay c.in-Second.is c.exchange-in-Second.new.self
