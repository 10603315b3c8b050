use Rattle.std.proofs.Common.{refl, arith}
use Rattle.shelf.proofs.Settling.{own_bays, own_places, own_limit}
use Rattle.array.proofs.Shapes.{matched_both, matched_not}
use Rattle.array.proofs.Meaning.{means, shaped_fit, shaped_unfit}
use Rattle.array.proofs.coded.ArrayShelf.shape.Goals as goal

pub returns-then-order-below-clause-promised : goal.returns-then-order-below-clause-promised
returns-then-order-below-clause-promised g c =
    let k = g.P.F.Field.arithmetic in
    let x = g.P.Plan.coefficients c.args.self.now.plan in
    let t = g.S.Shelf.table c.args.self.now.below in
    let bays = own_bays t _ _ c.shape.ensures c.from-below.ensures in
    let limit = own_limit t _ _ c.shape.ensures c.from-below.ensures in
    let n = c.data_bays-data_bays.ensures in
    let m = c.check_bays.ensures in
    let order = c.size-order.ensures in
    let there = c.if-below-data_bays.true in
    let high = c.if-order-below.true in
    shaped_fit k g.met.P.F.Field.lawful x t (g.met.P.Plan.fitting c.args.self.now.plan) c.shape.ensures.fitting (c.data_bays-data_bays.result, c.from-below.result.places, c.size-order.result)
    (matched_both k x t (omega arith) (omega arith)) n (own_places t _ _ c.shape.ensures c.from-below.ensures) order

pub returns-then-order-below-clause-means : goal.returns-then-order-below-clause-means
returns-then-order-below-clause-means g c =
    means g.P.F.Field.arithmetic g.met.P.F.Field.lawful (g.P.Plan.coefficients c.args.self.now.plan) (g.S.Shelf.table c.args.self.now.below)

pub returns-else-below-data_bays-clause-promised : goal.returns-else-below-data_bays-clause-promised
returns-else-below-data_bays-clause-promised g c =
    let k = g.P.F.Field.arithmetic in
    let x = g.P.Plan.coefficients c.args.self.now.plan in
    let t = g.S.Shelf.table c.args.self.now.below in
    let bays = own_bays t _ _ c.shape.ensures c.from-below.ensures in
    let limit = own_limit t _ _ c.shape.ensures c.from-below.ensures in
    let n = c.data_bays-data_bays.ensures in
    let m = c.check_bays.ensures in
    let order = c.size-order.ensures in
    let differs = c.else-below-data_bays.either in
    shaped_unfit k g.met.P.F.Field.lawful x t (g.met.P.Plan.fitting c.args.self.now.plan) c.shape.ensures.fitting (0, 0, c.size-order.result)
    (matched_not k x t (λ e h. let z : ⊥ = omega arith in z)) refl refl order

pub returns-else-below-data_bays-clause-means : goal.returns-else-below-data_bays-clause-means
returns-else-below-data_bays-clause-means g c =
    means g.P.F.Field.arithmetic g.met.P.F.Field.lawful (g.P.Plan.coefficients c.args.self.now.plan) (g.S.Shelf.table c.args.self.now.below)
