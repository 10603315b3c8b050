use Rattle.std.proofs.Common.{sym, ◌∙◌, arith}
use Rattle.shelf.proofs.Settling.{own_bays, own_places, own_limit}
use Rattle.array.proofs.Shapes.{matched_both, matched_not, fit_places, unfit_places}
use Rattle.opening.proofs.agreement.array_places.Goals as goal

pub returns-then-order-shape : goal.returns-then-order-shape
returns-then-order-shape g c =
    let k = g.P.F.Field.arithmetic in
    let x = g.P.Plan.coefficients c.args.plan.now in
    let t = g.S.Shelf.table c.args.below.now in
    let bays = own_bays t _ _ c.shape.ensures c.from-shape.ensures in
    let limit = own_limit t _ _ c.shape.ensures c.from-shape.ensures in
    let n = c.data_bays.ensures in
    let m = c.check_bays.ensures in
    let order = c.size-order.ensures in
    let there = c.if-shape-data_bays.true in
    let high = c.if-order-shape.true in
    own_places t _ _ c.shape.ensures c.from-shape.ensures ∙ sym (fit_places k x t (matched_both k x t (omega arith) (omega arith)))

pub returns-else-shape-data_bays : goal.returns-else-shape-data_bays
returns-else-shape-data_bays g c =
    let k = g.P.F.Field.arithmetic in
    let x = g.P.Plan.coefficients c.args.plan.now in
    let t = g.S.Shelf.table c.args.below.now in
    let bays = own_bays t _ _ c.shape.ensures c.from-shape.ensures in
    let limit = own_limit t _ _ c.shape.ensures c.from-shape.ensures in
    let n = c.data_bays.ensures in
    let m = c.check_bays.ensures in
    let order = c.size-order.ensures in
    let differs = c.else-shape-data_bays.either in
    sym (unfit_places k x t (matched_not k x t (λ e h. let z : ⊥ = omega arith in z)))
