use Rattle.std.proofs.Common.{◌<◌, ap, arith}
use Rattle.shelf.specs.Table.{Table}
use Rattle.shelf.proofs.Settling.{tested_exchange, own_bays}
use Rattle.shelf.proofs.Words.{bay_fit}
use Rattle.layers.specs.Pairs.{paired}
use Rattle.layers.proofs.Beside.{fit_table, fit_by_bay}
use Rattle.layers.proofs.pair.Pair.half.Goals as goal

pub returns-then-bay-cut : goal.returns-then-bay-cut
returns-then-bay-cut g c =
    let s = g.A.Shelf.table c.args.self.now.first in
    let t = g.B.Shelf.table c.args.self.now.second in
    let h : c.args.bay < (paired s t).bays = bay_fit (paired s t).bays c.args.bay (tested_exchange (paired s t) _ _ c.shape.ensures c.from.ensures c.args.bay c.in_ok-check_bay.ensures) in
    (fit_by_bay s t c.args.bay h, omega (arith, own_bays s _ _ c.shape-2.ensures c.from-cut.ensures, c.if-bay-cut.true))

pub returns-else-bay-cut : goal.returns-else-bay-cut
returns-else-bay-cut g c =
    let s = g.A.Shelf.table c.args.self.now.first in
    let t = g.B.Shelf.table c.args.self.now.second in
    let h : c.args.bay < (paired s t).bays = bay_fit (paired s t).bays c.args.bay (tested_exchange (paired s t) _ _ c.shape.ensures c.from.ensures c.args.bay c.in_ok-check_bay.ensures) in
    let fit = fit_by_bay s t c.args.bay h in
    let all = ap (λ (u : Table). u.bays) (fit_table s t fit) in
    let cut = own_bays s _ _ c.shape-2.ensures c.from-cut.ensures in
    (fit, omega (arith, cut, c.if-bay-cut.false), omega (arith, cut, all, h, c.if-bay-cut.false))
