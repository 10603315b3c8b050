use Rattle.array.proofs.Clears.{array_clears}
use Rattle.array.proofs.clearing.ArrayClearable.clear.Goals as goal

pub returns : goal.returns
returns g c =
    array_clears g.S.Shelf.table g.S.Shelf.sound g.P.F.Field.arithmetic g.met.P.F.Field.lawful g.P.Plan.coefficients c.args.self.now c.clear.new.self c.args.place c.clear.ensures
