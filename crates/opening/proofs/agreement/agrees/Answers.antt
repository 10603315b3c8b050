use Rattle.std.proofs.Common.{◌+◌, ◌<◌, ap₂, subst}
use Rattle.std.specs.Bool.{MatchBool}
use Rattle.opening.specs.Words.{ReadsPlace, Given}
use Rattle.opening.proofs.Agreeing.{place_tested, place_exactly}
use Rattle.opening.proofs.agreement.agrees.Goals as goal

pub returns-clause-promised : goal.returns-clause-promised
returns-clause-promised g c =
    let k = g.P.F.Field.arithmetic in
    let x = g.P.Plan.coefficients c.args.plan.now in
    let table = g.S.Shelf.table in
    let sound = g.S.Shelf.sound in
    let t = c.read_place-cells.new.below in
    let cells = c.read_place-cells.result.items in
    place_tested table sound k x c.args.place c.args.below.now t cells c.are_given.result
    (subst (λ n. c.args.place < n) c.array_places.ensures c.if-place-array_places.false)
    (subst (λ n. ReadsPlace table sound c.args.place n c.args.below.now t cells) (ap₂ (λ n m. n + m) c.data_bays.ensures c.check_bays.ensures) c.read_place-cells.ensures)
    (subst (λ cells. MatchBool c.are_given.result (Given k x cells) (Given k x cells → ⊥)) c.deref.ensures.0 c.are_given.ensures)

pub returns-clause-exactly : goal.returns-clause-exactly
returns-clause-exactly g c =
    let k = g.P.F.Field.arithmetic in
    let x = g.P.Plan.coefficients c.args.plan.now in
    let table = g.S.Shelf.table in
    let sound = g.S.Shelf.sound in
    let t = c.read_place-cells.new.below in
    let cells = c.read_place-cells.result.items in
    place_exactly table sound k x c.args.place c.args.below.now t cells c.are_given.result
    (subst (λ n. c.args.place < n) c.array_places.ensures c.if-place-array_places.false)
    (subst (λ n. ReadsPlace table sound c.args.place n c.args.below.now t cells) (ap₂ (λ n m. n + m) c.data_bays.ensures c.check_bays.ensures) c.read_place-cells.ensures)
    (subst (λ cells. MatchBool c.are_given.result (Given k x cells) (Given k x cells → ⊥)) c.deref.ensures.0 c.are_given.ensures)
