use Rattle.std.proofs.Common.{sym, ◌∙◌}
use Rattle.std.proofs.lemmas.Bool.{cond-true, cond-false}
use Rattle.shelf.proofs.Settling.{own_bays, own_places}
use Rattle.array.specs.Decoding.{matched, decoded}
use Rattle.array.proofs.Shapes.{none_fit, some_fit, unfit_places}
use Rattle.array.proofs.coded.Array.serviced.Goals as goal

pub returns-then-own-eq0-clause-bays : goal.returns-then-own-eq0-clause-bays
returns-then-own-eq0-clause-bays g c =
    let k = g.P.F.Field.arithmetic in
    let x = g.P.Plan.coefficients c.args.self.now.plan in
    let t = g.S.Shelf.table c.args.self.now.below in
    let fit = g.met.P.Plan.fitting c.args.self.now.plan in
    let own = own_bays (decoded k x t) _ _ c.shape.ensures.promised c.from-own.ensures in
    let not_fit = none_fit k x fit.data_low t (sym own ∙ c.if-own-eq0.true) in
    c.if-own-eq0.true ∙ sym (cond-false (matched k x t) t.bays 0 not_fit)

pub returns-then-own-eq0-clause-places : goal.returns-then-own-eq0-clause-places
returns-then-own-eq0-clause-places g c =
    let k = g.P.F.Field.arithmetic in
    let x = g.P.Plan.coefficients c.args.self.now.plan in
    let t = g.S.Shelf.table c.args.self.now.below in
    let fit = g.met.P.Plan.fitting c.args.self.now.plan in
    let own = own_bays (decoded k x t) _ _ c.shape.ensures.promised c.from-own.ensures in
    let not_fit = none_fit k x fit.data_low t (sym own ∙ c.if-own-eq0.true) in
    own_places (decoded k x t) _ _ c.shape.ensures.promised c.from-own.ensures ∙ unfit_places k x t not_fit ∙ sym (cond-false (matched k x t) t.places 0 not_fit)

pub returns-else-own-eq0-clause-bays : goal.returns-else-own-eq0-clause-bays
returns-else-own-eq0-clause-bays g c =
    let k = g.P.F.Field.arithmetic in
    let x = g.P.Plan.coefficients c.args.self.now.plan in
    let t = g.S.Shelf.table c.args.self.now.below in
    let own = own_bays (decoded k x t) _ _ c.shape.ensures.promised c.from-own.ensures in
    own_bays t _ _ c.shape-else-own-eq0.ensures c.from.ensures ∙ sym (cond-true (matched k x t) t.bays 0 (some_fit k x t (λ e. c.if-own-eq0.false (own ∙ e))))

pub returns-else-own-eq0-clause-places : goal.returns-else-own-eq0-clause-places
returns-else-own-eq0-clause-places g c =
    let k = g.P.F.Field.arithmetic in
    let x = g.P.Plan.coefficients c.args.self.now.plan in
    let t = g.S.Shelf.table c.args.self.now.below in
    let own = own_bays (decoded k x t) _ _ c.shape.ensures.promised c.from-own.ensures in
    own_places t _ _ c.shape-else-own-eq0.ensures c.from.ensures ∙ sym (cond-true (matched k x t) t.places 0 (some_fit k x t (λ e. c.if-own-eq0.false (own ∙ e))))
