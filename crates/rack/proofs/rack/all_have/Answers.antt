use Rattle.std.proofs.Common.{sym, ap, ◌∙◌, not}
use Rattle.rack.specs.Racks.{like}
use Rattle.rack.proofs.Alike.{likes, one_unlike, one_more, no_more, one_more_fitting, no_more_fitting}
use Rattle.rack.proofs.rack.all_have.Goals as goal

pub returns-then-ne-clause-like : goal.returns-then-ne-clause-like
returns-then-ne-clause-like g c =
    let f = g.S.Shelf.table in
    let is = likes (f c.shelf-item.result) c.shape.result c.args.numbers c.ne.result c.shape.ensures c.ne.ensures in
    sym (one_unlike f c.args.numbers c.args.shelves.now c.loop-shelf.shelf-index c.shelf-item.result c.loop-shelf-test.true
    (sym (ap (λ s. like c.args.numbers (f s)) c.shelf-item.is) ∙ is ∙ ap not c.if-ne.true))

pub returns-clause-like : goal.returns-clause-like
returns-clause-like g c =
    sym (no_more g.S.Shelf.table c.args.numbers c.args.shelves.now c.loop-shelf.shelf-index c.loop-shelf-test.false c.loop-shelf.invariant.0)

pub returns-clause-fitting : goal.returns-clause-fitting
returns-clause-fitting g c is =
    no_more_fitting g.S.Shelf.table c.args.numbers c.args.shelves.now c.loop-shelf.shelf-index c.loop-shelf-test.false c.loop-shelf.invariant.1

pub loop-shelf-preserved : goal.loop-shelf-preserved
loop-shelf-preserved g c =
    let f = g.S.Shelf.table in
    let is = likes (f c.shelf-item.result) c.shape.result c.args.numbers c.ne.result c.shape.ensures c.ne.ensures in (
      one_more f c.args.numbers c.args.shelves.now c.loop-shelf.shelf-index c.shelf-item.result c.loop-shelf-test.true
          (sym (ap (λ s. like c.args.numbers (f s)) c.shelf-item.is) ∙ is ∙ ap not c.if-ne.false) c.loop-shelf.invariant.0,
      one_more_fitting f c.args.numbers c.args.shelves.now c.loop-shelf.shelf-index c.shelf-item.result c.loop-shelf-test.true c.shelf-item.is c.shape.ensures.fitting c.loop-shelf.invariant.1,
    )
