use Rattle.std.proofs.Common.{sym, ap, ◌∙◌, arith}
use Rattle.shelf.specs.Table.{Table}
use Rattle.shelf.proofs.Settling.{own_bays, own_places, own_limit}
use Rattle.layers.proofs.Beside.{fit_table, unfit_table, fits_is, misfit, pair_fitting}
use Rattle.layers.proofs.pair.PairShelf.shape.Goals as goal

pub returns-then-first-second-2 : goal.returns-then-first-second-2
returns-then-first-second-2 g c =
    let s = g.A.Shelf.table c.args.self.now.first in
    let t = g.B.Shelf.table c.args.self.now.second in
    let bays = own_bays s _ _ c.shape.ensures c.from-first.ensures in
    let more = own_bays t _ _ c.shape-2.ensures c.from-second.ensures in
    let places = own_places s _ _ c.shape.ensures c.from-first.ensures in
    let others = own_places t _ _ c.shape-2.ensures c.from-second.ensures in
    let limit = own_limit s _ _ c.shape.ensures c.from-first.ensures in
    let other = own_limit t _ _ c.shape-2.ensures c.from-second.ensures in
    let e = fit_table s t (fits_is s t (omega (arith, bays, more)) (omega (arith, places, others)) (omega (arith, limit, other))) in
    record {
      bays = omega (arith, bays, more, ap (λ (u : Table). u.bays) e);
      places = places ∙ sym (ap (λ (u : Table). u.places) e);
      limit = limit ∙ sym (ap (λ (u : Table). u.limit) e);
      fitting = pair_fitting s t c.shape.ensures.fitting c.shape-2.ensures.fitting;
    }

pub returns-else-bays-le-MOST_BAYS : goal.returns-else-bays-le-MOST_BAYS
returns-else-bays-le-MOST_BAYS g c =
    let s = g.A.Shelf.table c.args.self.now.first in
    let t = g.B.Shelf.table c.args.self.now.second in
    let limit = own_limit s _ _ c.shape.ensures c.from-first.ensures in
    let e = unfit_table s t
    (misfit s t c.from-first.result.bays c.from-second.result.bays c.from-first.result.places c.from-second.result.places c.from-first.result.limit c.from-second.result.limit
    (own_bays s _ _ c.shape.ensures c.from-first.ensures) (own_bays t _ _ c.shape-2.ensures c.from-second.ensures)
    (own_places s _ _ c.shape.ensures c.from-first.ensures) (own_places t _ _ c.shape-2.ensures c.from-second.ensures)
    limit (own_limit t _ _ c.shape-2.ensures c.from-second.ensures) c.else-bays-le-MOST_BAYS.either) in
    record {
      bays = sym (ap (λ (u : Table). u.bays) e);
      places = sym (ap (λ (u : Table). u.places) e);
      limit = limit ∙ sym (ap (λ (u : Table). u.limit) e);
      fitting = pair_fitting s t c.shape.ensures.fitting c.shape-2.ensures.fitting;
    }
