use Rattle.shelf.specs.Calls.{refuses_word, Written}
use Rattle.layers.proofs.Halves.{on_first, on_second, aside_first, aside_second}
use Rattle.layers.proofs.BayCalls.{writes}
use Rattle.layers.proofs.pair.PairShelf.write.Goals as goal

pub returns-in-First-clause-promised : goal.returns-in-First-clause-promised
returns-in-First-clause-promised g c =
    on_first g.A.Shelf.table g.A.Shelf.sound g.B.Shelf.table g.B.Shelf.sound (λ b. refuses_word b c.args.place c.args.word) (λ b. Written b c.args.place c.args.word) (writes c.args.place c.args.word) c.args.self.now c.args.bay c.in_ok-half.field-0 c.in_ok-half.ensures
    c.in-First.is c.write.new.self c.write.result c.write.ensures

pub returns-in-Second-clause-promised : goal.returns-in-Second-clause-promised
returns-in-Second-clause-promised g c =
    on_second g.A.Shelf.table g.A.Shelf.sound g.B.Shelf.table g.B.Shelf.sound (λ b. refuses_word b c.args.place c.args.word) (λ b. Written b c.args.place c.args.word) (writes c.args.place c.args.word) c.args.self.now c.args.bay c.in_ok-half.field-0 c.in_ok-half.ensures
    c.in-Second.bay c.in-Second.is c.write-in-Second.new.self c.write-in-Second.result c.write-in-Second.ensures

pub returns-in-First-clause-aside : goal.returns-in-First-clause-aside
returns-in-First-clause-aside g c =
    aside_first g.A.Shelf.table g.B.Shelf.table c.args.self.now c.args.bay c.in_ok-half.field-0 c.in_ok-half.ensures c.in-First.is c.write.new.self

pub returns-in-Second-clause-aside : goal.returns-in-Second-clause-aside
returns-in-Second-clause-aside g c =
    aside_second g.A.Shelf.table g.B.Shelf.table c.args.self.now c.args.bay c.in_ok-half.field-0 c.in_ok-half.ensures c.in-Second.bay c.in-Second.is c.write-in-Second.new.self
