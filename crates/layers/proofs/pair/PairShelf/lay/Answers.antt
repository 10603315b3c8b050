use Rattle.std.proofs.Common.{Ok, Err, sym, length-take-le}
use Rattle.std.proofs.lemmas.Result.{err_from_is_err_and}
use Rattle.shelf.specs.Calls.{Outcome, LayAnswer, refuses_lay}
use Rattle.shelf.proofs.Settling.{same_shape, own_bays}
use Rattle.layers.proofs.Laying.{cut_by, of_first, of_second, lay_bits, lay_both, lay_first_fails, lay_second_fails}
use Rattle.layers.proofs.pair.PairShelf.lay.Goals as goal

pub slice_bounds-lay-end : goal.slice_bounds-lay-end
slice_bounds-lay-end g c =
    let s = g.A.Shelf.table c.args.self.now.first in
    let t = g.B.Shelf.table c.args.self.now.second in
    let p = c.args.place in
    let ws = c.args.words.now in
    let k = cut_by s t _ _ c.shape.ensures c.from.ensures c.from-cut.result.bays (own_bays s _ _ c.shape-2.ensures c.from-cut.ensures) p ws c.in_ok-check_lay.ensures in
    sym (length-take-le c.from-cut.result.bays ws k.within)

pub returns-in_err-low-clause-promised : goal.returns-in_err-low-clause-promised
returns-in_err-low-clause-promised g c =
    let s = g.A.Shelf.table c.args.self.now.first in
    let t = g.B.Shelf.table c.args.self.now.second in
    let p = c.args.place in
    let ws = c.args.words.now in
    let k = cut_by s t _ _ c.shape.ensures c.from.ensures c.from-cut.result.bays (own_bays s _ _ c.shape-2.ensures c.from-cut.ensures) p ws c.in_ok-check_lay.ensures in
    let e = c.in_err-low.field-0.0 in
    let low = of_first (λ vs. Outcome g.A.Shelf.table g.A.Shelf.sound c.args.self.now.first c.lay.new.self (refuses_lay p vs) (LayAnswer p vs) (Err e)) ws c.from-cut.result.bays s.bays k.at c.in_err-low.ensures.promised in
    let q = err_from_is_err_and c.from_residual-in_err-low.result c.from_residual-in_err-low.ensures.1 in
    rw (q.1, q.2)
    (lay_first_fails s (g.A.Shelf.table c.lay.new.self) t t k.fit low.0 (same_shape t) ws p k.none
    (g.A.Shelf.sound c.args.self.now.first) (g.A.Shelf.sound c.lay.new.self) (g.B.Shelf.sound c.args.self.now.second) (g.B.Shelf.sound c.args.self.now.second) e low)

pub returns-in_err-high-clause-promised : goal.returns-in_err-high-clause-promised
returns-in_err-high-clause-promised g c =
    let s = g.A.Shelf.table c.args.self.now.first in
    let t = g.B.Shelf.table c.args.self.now.second in
    let p = c.args.place in
    let ws = c.args.words.now in
    let k = cut_by s t _ _ c.shape.ensures c.from.ensures c.from-cut.result.bays (own_bays s _ _ c.shape-2.ensures c.from-cut.ensures) p ws c.in_ok-check_lay.ensures in
    let e = c.in_err-high.field-0.0 in
    let high = of_second (λ vs. Outcome g.B.Shelf.table g.B.Shelf.sound c.args.self.now.second c.lay-2.new.self (refuses_lay p vs) (LayAnswer p vs) (Err e)) ws c.from-cut.result.bays s.bays k.at c.in_err-high.ensures.promised in
    let q = err_from_is_err_and c.from_residual-in_err-high.result c.from_residual-in_err-high.ensures.1 in
    rw (q.1, q.2)
    (lay_second_fails s (g.A.Shelf.table c.lay.new.self) t (g.B.Shelf.table c.lay-2.new.self) k.fit c.lay.ensures.promised.0 high.0 ws p k.none
    (g.A.Shelf.sound c.args.self.now.first) (g.A.Shelf.sound c.lay.new.self) (g.B.Shelf.sound c.args.self.now.second) (g.B.Shelf.sound c.lay-2.new.self) e high)

pub returns-clause-promised : goal.returns-clause-promised
returns-clause-promised g c =
    let s = g.A.Shelf.table c.args.self.now.first in
    let t = g.B.Shelf.table c.args.self.now.second in
    let p = c.args.place in
    let ws = c.args.words.now in
    let k = cut_by s t _ _ c.shape.ensures c.from.ensures c.from-cut.result.bays (own_bays s _ _ c.shape-2.ensures c.from-cut.ensures) p ws c.in_ok-check_lay.ensures in
    let low = of_first (λ vs. Outcome g.A.Shelf.table g.A.Shelf.sound c.args.self.now.first c.lay.new.self (refuses_lay p vs) (LayAnswer p vs) (Ok c.in_ok-low.low)) ws c.from-cut.result.bays s.bays k.at c.in_ok-low.ensures.promised in
    let high = of_second (λ vs. Outcome g.B.Shelf.table g.B.Shelf.sound c.args.self.now.second c.lay-2.new.self (refuses_lay p vs) (LayAnswer p vs) (Ok c.in_ok-high.high)) ws c.from-cut.result.bays s.bays k.at c.in_ok-high.ensures.promised in
    lay_both s (g.A.Shelf.table c.lay.new.self) t (g.B.Shelf.table c.lay-2.new.self) k.fit low.0 high.0 ws p k.none
    (g.A.Shelf.sound c.args.self.now.first) (g.A.Shelf.sound c.lay.new.self) (g.B.Shelf.sound c.args.self.now.second) (g.B.Shelf.sound c.lay-2.new.self) c.from-cut.result.bays c.in_ok-low.low c.in_ok-high.high k.at low high

pub returns-clause-bits : goal.returns-clause-bits
returns-clause-bits g c =
    let s = g.A.Shelf.table c.args.self.now.first in
    let t = g.B.Shelf.table c.args.self.now.second in
    let p = c.args.place in
    let ws = c.args.words.now in
    let k = cut_by s t _ _ c.shape.ensures c.from.ensures c.from-cut.result.bays (own_bays s _ _ c.shape-2.ensures c.from-cut.ensures) p ws c.in_ok-check_lay.ensures in
    let low = of_first (λ vs. Outcome g.A.Shelf.table g.A.Shelf.sound c.args.self.now.first c.lay.new.self (refuses_lay p vs) (LayAnswer p vs) (Ok c.in_ok-low.low)) ws c.from-cut.result.bays s.bays k.at c.in_ok-low.ensures.promised in
    let high = of_second (λ vs. Outcome g.B.Shelf.table g.B.Shelf.sound c.args.self.now.second c.lay-2.new.self (refuses_lay p vs) (LayAnswer p vs) (Ok c.in_ok-high.high)) ws c.from-cut.result.bays s.bays k.at c.in_ok-high.ensures.promised in (
      c.in_ok-low.low,
      c.in_ok-high.high,
      lay_bits s (g.A.Shelf.table c.lay.new.self) t (g.B.Shelf.table c.lay-2.new.self) k.fit low.0 high.0 ws p k.none
          (g.A.Shelf.sound c.args.self.now.first) (g.A.Shelf.sound c.lay.new.self) (g.B.Shelf.sound c.args.self.now.second) (g.B.Shelf.sound c.lay-2.new.self) c.from-cut.result.bays c.in_ok-low.low c.in_ok-high.high k.at low high,
      low,
      high,
      of_first (λ vs. g.A.Shelf.lay_bits c.args.self.now.first c.lay.new.self p vs (Ok c.in_ok-low.low)) ws c.from-cut.result.bays s.bays k.at c.in_ok-low.ensures.bits,
      of_second (λ vs. g.B.Shelf.lay_bits c.args.self.now.second c.lay-2.new.self p vs (Ok c.in_ok-high.high)) ws c.from-cut.result.bays s.bays k.at c.in_ok-high.ensures.bits,
    )
