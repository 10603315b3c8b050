use Rattle.shelf.specs.Calls.{refuses_read, Read}
use Rattle.layers.proofs.Halves.{on_first, on_second, aside_first, aside_second}
use Rattle.layers.proofs.BayCalls.{reads}
use Rattle.layers.proofs.pair.PairShelf.read.Goals as goal

pub returns-in-First-clause-promised : goal.returns-in-First-clause-promised
returns-in-First-clause-promised g c =
    on_first g.A.Shelf.table g.A.Shelf.sound g.B.Shelf.table g.B.Shelf.sound (λ b. refuses_read b c.args.place) (λ b. Read b c.args.place) (reads c.args.place) c.args.self.now c.args.bay c.in_ok-half.field-0 c.in_ok-half.ensures
    c.in-First.is c.read.new.self c.read.result c.read.ensures

pub returns-in-Second-clause-promised : goal.returns-in-Second-clause-promised
returns-in-Second-clause-promised g c =
    on_second g.A.Shelf.table g.A.Shelf.sound g.B.Shelf.table g.B.Shelf.sound (λ b. refuses_read b c.args.place) (λ b. Read b c.args.place) (reads c.args.place) c.args.self.now c.args.bay c.in_ok-half.field-0 c.in_ok-half.ensures
    c.in-Second.bay c.in-Second.is c.read-in-Second.new.self c.read-in-Second.result c.read-in-Second.ensures

pub returns-in-First-clause-aside : goal.returns-in-First-clause-aside
returns-in-First-clause-aside g c =
    aside_first g.A.Shelf.table g.B.Shelf.table c.args.self.now c.args.bay c.in_ok-half.field-0 c.in_ok-half.ensures c.in-First.is c.read.new.self

pub returns-in-Second-clause-aside : goal.returns-in-Second-clause-aside
returns-in-Second-clause-aside g c =
    aside_second g.A.Shelf.table g.B.Shelf.table c.args.self.now c.args.bay c.in_ok-half.field-0 c.in_ok-half.ensures c.in-Second.bay c.in-Second.is c.read-in-Second.new.self
