use Rattle.std.proofs.Common.{not, ap, ◌∙◌}
use Rattle.linear.specs.Equations.{has_row}
use Rattle.linear.specs.Elimination.{reduced}
use Rattle.linear.proofs.sets.tell.Goals as goal

pub returns : goal.returns
returns g c =
    let k = g.P.F.Field.arithmetic in
    ap not (c.has_row.ensures ∙ ap (has_row k) (c.reduce.ensures ∙ ap (reduced k c.args.pivots.now.items) c.bay_equation.ensures))
