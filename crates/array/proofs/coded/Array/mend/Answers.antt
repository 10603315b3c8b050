use Rattle.array.proofs.Serving.{tested_mend, mend_served}
use Rattle.array.proofs.coded.Array.mend.Goals as goal

pub returns-clause-promised : goal.returns-clause-promised
returns-clause-promised g c =
    let k = g.P.F.Field.arithmetic in
    let lawful = g.met.P.F.Field.lawful in
    let none = tested_mend g.S.Shelf.table g.S.Shelf.sound k lawful g.P.Plan.coefficients c.args.self.now c.mend_cell.new.below c.serviced.result.bays c.serviced.result.places c.args.bay c.args.place c.serviced.ensures.bays c.serviced.ensures.places c.in_ok-check_cell.ensures in
    mend_served g.S.Shelf.table g.S.Shelf.sound k lawful g.P.Plan.coefficients c.args.self.now c.mend_cell.new.below c.args.bay c.args.place c.mend_cell.result none c.mend_cell.ensures.promised
