use Rattle.std.proofs.Common.{◌+◌, ◌*◌, ◌%◌, ◌^◌, ◌<◌, map, length, set, Ok, Err, sym, refl, subst, arith}
use lib.Bits.{bit_or}
use Rattle.std.proofs.lemmas.Result.{err_from_is_err_and}
use Rattle.shelf.specs.Calls.{Outcome, LayAnswer, refuses_lay}
use Rattle.shelf.proofs.Settling.{tested_lay}
use Rattle.rack.specs.Racks.{racked}
use Rattle.rack.proofs.Laying.{Laying, lent, cut_within, laying_none, laying_more, laying_fails, laying_all, laid_by_shelf}
use Rattle.rack.proofs.rack.RackShelf.lay.Goals as goal

pub loop-i-init : goal.loop-i-init
loop-i-init g c =
    let f = g.S.Shelf.table in
    let xs = c.args.self.now.shelves.items in
    let none = tested_lay (racked (map f xs)) _ _ c.shape.ensures c.from.ensures c.args.place c.args.words.now c.in_ok-check_lay.ensures in
    laying_none f g.S.Shelf.sound g.S.Shelf.lay_bits xs c.args.place c.args.words.now none

pub returns-clause-promised : goal.returns-clause-promised
returns-clause-promised g c =
    let f = g.S.Shelf.table in
    let xs = c.args.self.now.shelves.items in
    let none = tested_lay (racked (map f xs)) _ _ c.shape.ensures c.from.ensures c.args.place c.args.words.now c.in_ok-check_lay.ensures in
    laying_all f g.S.Shelf.sound g.S.Shelf.lay_bits xs c.args.place c.args.words.now none c.loop-i.self.shelves.items c.loop-i.i c.loop-i.bits c.loop-i.invariant
    (omega (arith, c.loop-i-test.false, c.len-i-end.ensures, c.args.self.now.shelves.ok.0))
    (omega (arith, c.loop-i.auto.i-end, c.len-i-end.ensures, c.args.self.now.shelves.ok.0))

pub loop-i-preserved : goal.loop-i-preserved
loop-i-preserved g c =
    let f = g.S.Shelf.table in
    let xs = c.args.self.now.shelves.items in
    let none = tested_lay (racked (map f xs)) _ _ c.shape.ensures c.from.ensures c.args.place c.args.words.now c.in_ok-check_lay.ensures in
    let few : c.loop-i.i < length xs = omega (arith, c.loop-i-test.true, c.len-i-end.ensures, c.args.self.now.shelves.ok.0) in
    let s0 = c.index_mut.result.now in
    let s1 = c.lay.new.self in
    let laid = c.in_ok-laid.laid in
    let width = c.shelf_bays-width.result in
    let lays = lent f g.S.Shelf.sound g.S.Shelf.lay_bits xs c.args.place c.args.words.now (λ vs. Outcome f g.S.Shelf.sound s0 s1 (refuses_lay c.args.place vs) (LayAnswer c.args.place vs) (Ok laid)) c.loop-i.i width c.shelf_bays-width.ensures c.in_ok-laid.ensures.promised in
    let told = lent f g.S.Shelf.sound g.S.Shelf.lay_bits xs c.args.place c.args.words.now (λ vs. g.S.Shelf.lay_bits s0 s1 c.args.place vs (Ok laid)) c.loop-i.i width c.shelf_bays-width.ensures c.in_ok-laid.ensures.bits in
    subst (λ v. Laying f g.S.Shelf.sound g.S.Shelf.lay_bits xs c.args.place c.args.words.now (set c.loop-i.self.shelves.items c.loop-i.i s1) (c.loop-i.i + 1) (bit_or c.loop-i.bits ((laid * 2 ^ (c.loop-i.i * v)) % 4294967296))) (sym c.shelf_bays-width.ensures)
    (laying_more f g.S.Shelf.sound g.S.Shelf.lay_bits xs c.args.place c.args.words.now none c.loop-i.self.shelves.items c.loop-i.i c.loop-i.bits c.loop-i.invariant few s0 s1 c.index_mut.ensures.value laid lays told)

pub returns-in_err-laid-clause-promised : goal.returns-in_err-laid-clause-promised
returns-in_err-laid-clause-promised g c =
    let f = g.S.Shelf.table in
    let xs = c.args.self.now.shelves.items in
    let none = tested_lay (racked (map f xs)) _ _ c.shape.ensures c.from.ensures c.args.place c.args.words.now c.in_ok-check_lay.ensures in
    let few : c.loop-i.i < length xs = omega (arith, c.loop-i-test.true, c.len-i-end.ensures, c.args.self.now.shelves.ok.0) in
    let s0 = c.index_mut.result.now in
    let s1 = c.lay.new.self in
    let e = c.in_err-laid.field-0.0 in
    let lays = lent f g.S.Shelf.sound g.S.Shelf.lay_bits xs c.args.place c.args.words.now (λ vs. Outcome f g.S.Shelf.sound s0 s1 (refuses_lay c.args.place vs) (LayAnswer c.args.place vs) (Err e)) c.loop-i.i c.shelf_bays-width.result c.shelf_bays-width.ensures c.in_err-laid.ensures.promised in
    let q = err_from_is_err_and c.from_residual-in_err-laid.result c.from_residual-in_err-laid.ensures.1 in
    rw (q.1, q.2)
    (laying_fails f g.S.Shelf.sound g.S.Shelf.lay_bits xs c.args.place c.args.words.now none c.loop-i.self.shelves.items c.loop-i.i c.loop-i.bits c.loop-i.invariant few s0 s1 c.index_mut.ensures.value (Err e) lays e refl)

pub overflow_mul-low : goal.overflow_mul-low
overflow_mul-low g c =
    let f = g.S.Shelf.table in
    let xs = c.args.self.now.shelves.items in
    let none = tested_lay (racked (map f xs)) _ _ c.shape.ensures c.from.ensures c.args.place c.args.words.now c.in_ok-check_lay.ensures in
    let few : c.loop-i.i < length xs = omega (arith, c.loop-i-test.true, c.len-i-end.ensures, c.args.self.now.shelves.ok.0) in
    let low = cut_within f g.S.Shelf.sound g.S.Shelf.lay_bits xs c.args.place c.args.words.now none c.loop-i.i c.shelf_bays-width.result few c.shelf_bays-width.ensures in
    omega (arith, low)

pub index_mut-requires : goal.index_mut-requires
index_mut-requires g c =
    let f = g.S.Shelf.table in
    let xs = c.args.self.now.shelves.items in
    let none = tested_lay (racked (map f xs)) _ _ c.shape.ensures c.from.ensures c.args.place c.args.words.now c.in_ok-check_lay.ensures in
    let few : c.loop-i.i < length xs = omega (arith, c.loop-i-test.true, c.len-i-end.ensures, c.args.self.now.shelves.ok.0) in
    let long = c.loop-i.invariant.long in
    omega (arith, few, long, c.loop-i.self.shelves.ok.0)

pub overflow_add-low : goal.overflow_add-low
overflow_add-low g c =
    let f = g.S.Shelf.table in
    let xs = c.args.self.now.shelves.items in
    let none = tested_lay (racked (map f xs)) _ _ c.shape.ensures c.from.ensures c.args.place c.args.words.now c.in_ok-check_lay.ensures in
    let few : c.loop-i.i < length xs = omega (arith, c.loop-i-test.true, c.len-i-end.ensures, c.args.self.now.shelves.ok.0) in
    let low = cut_within f g.S.Shelf.sound g.S.Shelf.lay_bits xs c.args.place c.args.words.now none c.loop-i.i c.shelf_bays-width.result few c.shelf_bays-width.ensures in
    omega (arith, low)

pub offset_bounds-words-low : goal.offset_bounds-words-low
offset_bounds-words-low g c =
    let f = g.S.Shelf.table in
    let xs = c.args.self.now.shelves.items in
    let none = tested_lay (racked (map f xs)) _ _ c.shape.ensures c.from.ensures c.args.place c.args.words.now c.in_ok-check_lay.ensures in
    let few : c.loop-i.i < length xs = omega (arith, c.loop-i-test.true, c.len-i-end.ensures, c.args.self.now.shelves.ok.0) in
    let low = cut_within f g.S.Shelf.sound g.S.Shelf.lay_bits xs c.args.place c.args.words.now none c.loop-i.i c.shelf_bays-width.result few c.shelf_bays-width.ensures in
    omega (arith, low)

pub slice_bounds-lay-end : goal.slice_bounds-lay-end
slice_bounds-lay-end g c =
    let f = g.S.Shelf.table in
    let xs = c.args.self.now.shelves.items in
    let none = tested_lay (racked (map f xs)) _ _ c.shape.ensures c.from.ensures c.args.place c.args.words.now c.in_ok-check_lay.ensures in
    let few : c.loop-i.i < length xs = omega (arith, c.loop-i-test.true, c.len-i-end.ensures, c.args.self.now.shelves.ok.0) in
    let low = cut_within f g.S.Shelf.sound g.S.Shelf.lay_bits xs c.args.place c.args.words.now none c.loop-i.i c.shelf_bays-width.result few c.shelf_bays-width.ensures in
    omega (arith, low)

pub returns-clause-bits : goal.returns-clause-bits
returns-clause-bits g c =
    let f = g.S.Shelf.table in
    let xs = c.args.self.now.shelves.items in
    let none = tested_lay (racked (map f xs)) _ _ c.shape.ensures c.from.ensures c.args.place c.args.words.now c.in_ok-check_lay.ensures in
    laid_by_shelf f g.S.Shelf.sound g.S.Shelf.lay_bits xs c.args.place c.args.words.now none c.loop-i.self.shelves.items c.loop-i.i c.loop-i.bits c.loop-i.invariant
    (omega (arith, c.loop-i-test.false, c.len-i-end.ensures, c.args.self.now.shelves.ok.0))
