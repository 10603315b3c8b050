use Rattle.std.proofs.Common.{sym, ◌∙◌, arith}
use Rattle.rack.proofs.Clearing.{none_to_clear, clearing_none, clearing_more, clearing_all}
use Rattle.rack.proofs.rack.RackClearable.clear.Goals as goal

pub returns-then-from-eq0-clause-promised : goal.returns-then-from-eq0-clause-promised
returns-then-from-eq0-clause-promised g c = none_to_clear g.S.Shelf.table g.S.Shelf.sound c.args.self.now.shelves.items c.args.place (sym c.shape.ensures.bays ∙ sym c.from.ensures.0 ∙ c.if-from-eq0.true)

pub loop-i-init : goal.loop-i-init
loop-i-init g c =
    let a = c.shape.ensures.bays in
    let b = c.from.ensures.0 in
    let n = c.if-from-eq0.false in
    clearing_none g.S.Shelf.table g.S.Shelf.sound c.args.self.now.shelves.items c.args.place (omega (arith, a, b, n))

pub loop-i-preserved : goal.loop-i-preserved
loop-i-preserved g c =
    let a = c.shape.ensures.bays in
    let b = c.from.ensures.0 in
    let n = c.if-from-eq0.false in
    clearing_more g.S.Shelf.table g.S.Shelf.sound c.args.self.now.shelves.items c.args.place (omega (arith, a, b, n)) c.loop-i.self.shelves.items c.loop-i.i c.loop-i.invariant
    (omega (arith, c.loop-i-test.true, c.len-i-end.ensures, c.args.self.now.shelves.ok.0)) c.index_mut.result.now c.clear.new.self c.index_mut.ensures.value c.clear.ensures

pub returns-clause-promised : goal.returns-clause-promised
returns-clause-promised g c =
    let a = c.shape.ensures.bays in
    let b = c.from.ensures.0 in
    let n = c.if-from-eq0.false in
    clearing_all g.S.Shelf.table g.S.Shelf.sound c.args.self.now.shelves.items c.args.place (omega (arith, a, b, n)) c.loop-i.self.shelves.items c.loop-i.i c.loop-i.invariant
    (omega (arith, c.loop-i-test.false, c.len-i-end.ensures, c.args.self.now.shelves.ok.0))
    (omega (arith, c.loop-i.auto.i-end, c.len-i-end.ensures, c.args.self.now.shelves.ok.0))

-- only a rack with bays comes so far
pub returns-clause-lacking : goal.returns-clause-lacking
returns-clause-lacking g c none =
    let a = c.shape.ensures.bays in
    let b = c.from.ensures.0 in
    let n = c.if-from-eq0.false in
    absurd (let y : ⊥ = omega (arith, a, b, n, none) in y)
