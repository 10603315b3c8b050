use Rattle.std.proofs.Common.{◌<◌, map, arith}
use Rattle.shelf.proofs.Settling.{tested_exchange}
use Rattle.shelf.proofs.Words.{bay_fit}
use Rattle.rack.specs.Racks.{racked}
use Rattle.rack.proofs.Rows.{found, wide}
use Rattle.rack.proofs.rack.Rack.slot.Goals as goal

pub nonzero_div-result : goal.nonzero_div-result
nonzero_div-result g c =
    let ts = map g.S.Shelf.table c.args.self.now.shelves.items in
    let few : c.args.bay < (racked ts).bays = bay_fit (racked ts).bays c.args.bay (tested_exchange (racked ts) _ _ c.shape.ensures c.from.ensures c.args.bay c.in_ok-check_bay.ensures) in
    let w = wide ts c.args.bay c.shelf_bays-width.result few c.shelf_bays-width.ensures in
    omega (arith, w)

pub nonzero_rem-result : goal.nonzero_rem-result
nonzero_rem-result g c =
    let ts = map g.S.Shelf.table c.args.self.now.shelves.items in
    let few : c.args.bay < (racked ts).bays = bay_fit (racked ts).bays c.args.bay (tested_exchange (racked ts) _ _ c.shape.ensures c.from.ensures c.args.bay c.in_ok-check_bay.ensures) in
    let w = wide ts c.args.bay c.shelf_bays-width.result few c.shelf_bays-width.ensures in
    omega (arith, w)

pub returns : goal.returns
returns g c =
    let ts = map g.S.Shelf.table c.args.self.now.shelves.items in
    let few : c.args.bay < (racked ts).bays = bay_fit (racked ts).bays c.args.bay (tested_exchange (racked ts) _ _ c.shape.ensures c.from.ensures c.args.bay c.in_ok-check_bay.ensures) in
    found ts c.args.bay c.shelf_bays-width.result few c.shelf_bays-width.ensures
