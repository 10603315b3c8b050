use Rattle.array.proofs.Serving.{tested_fresh, exchange_served}
use Rattle.array.proofs.coded.Array.exchange.Goals as goal

pub returns : goal.returns
returns g c =
    let k = g.P.F.Field.arithmetic in
    let lawful = g.met.P.F.Field.lawful in
    let none = tested_fresh g.S.Shelf.table g.S.Shelf.sound k lawful g.P.Plan.coefficients c.args.self.now c.exchange.new.self c.serviced.result.bays c.args.bay c.serviced.ensures.bays c.in_ok-check_bay.ensures in
    exchange_served g.S.Shelf.table g.S.Shelf.sound k lawful g.P.Plan.coefficients c.args.self.now c.exchange.new.self c.args.bay c.exchange.result none c.exchange.ensures
