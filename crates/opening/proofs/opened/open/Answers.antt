use Rattle.std.proofs.Common.{sym, subst}
use Rattle.opening.proofs.Places.{Going, going_next, all_opened}
use Rattle.opening.proofs.opened.open.Goals as goal

pub loop-place-preserved : goal.loop-place-preserved
loop-place-preserved g c =
    let x = g.P.Plan.coefficients c.args.plan in
    going_next g.S.Shelf.table g.S.Shelf.sound g.P.F.Field.arithmetic g.met.P.F.Field.lawful x c.array_places-places.result c.args.below c.array_places-places.ensures
    c.loop-place.below c.loop-place.torn.items c.loop-place.place c.loop-place.invariant c.loop-place-test.true c.clear_torn.new.below c.clear_torn.result c.clear_torn.ensures

pub returns : goal.returns
returns g c =
    let k = g.P.F.Field.arithmetic in
    let x = g.P.Plan.coefficients c.args.plan in
    let places = c.array_places-places.result in
    let n = c.loop-place.place in
    let torn = c.loop-place.torn in
    all_opened g.S.Shelf.table g.S.Shelf.sound k g.met.P.F.Field.lawful g.P.Plan.coefficients c.args.below c.args.plan (record { array = c.assemble.result; torn = torn }) places n
    c.assemble.ensures.1 c.array_places-places.ensures
    (subst (λ now. Going g.S.Shelf.table g.S.Shelf.sound k x places c.args.below now torn.items n) (sym c.assemble.ensures.0) c.loop-place.invariant)
    c.loop-place-test.false
