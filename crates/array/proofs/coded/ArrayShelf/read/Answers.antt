use Rattle.shelf.proofs.Settling.{tested_read}
use Rattle.array.specs.Tables.{array_table}
use Rattle.array.proofs.Reading.{read_promised, read_below}
use Rattle.array.proofs.coded.ArrayShelf.read.Goals as goal

pub returns-clause-promised : goal.returns-clause-promised
returns-clause-promised g c =
    read_promised g.S.Shelf.table g.S.Shelf.sound g.P.F.Field.arithmetic g.met.P.F.Field.lawful g.P.Plan.coefficients c.args.self.now c.args.bay c.args.place c.find_word.new.below c.find_word.result
    (tested_read (array_table g.S.Shelf.table g.P.F.Field.arithmetic g.P.Plan.coefficients c.args.self.now) _ _ c.shape.ensures.promised c.from.ensures c.args.bay c.args.place c.in_ok-check_cell.ensures) c.find_word.ensures

pub returns-clause-below : goal.returns-clause-below
returns-clause-below g c =
    read_below g.S.Shelf.table g.S.Shelf.sound g.P.F.Field.arithmetic g.met.P.F.Field.lawful g.P.Plan.coefficients c.args.self.now c.args.bay c.args.place c.find_word.new.below c.find_word.result
    (tested_read (array_table g.S.Shelf.table g.P.F.Field.arithmetic g.P.Plan.coefficients c.args.self.now) _ _ c.shape.ensures.promised c.from.ensures c.args.bay c.args.place c.in_ok-check_cell.ensures) c.find_word.ensures
