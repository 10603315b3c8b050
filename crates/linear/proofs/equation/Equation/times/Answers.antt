use Rattle.std.proofs.Common.{rules, ap₂, slice_index}
use Rattle.linear.specs.Equations.{scaled}
use Rattle.plan.proofs.FromFn.{from_fn_is}
use Rattle.linear.proofs.Equations.{equation}
use Rattle.linear.proofs.equation.Equation.times.Goals as goal

pub returns : goal.returns
returns g c =
    ap₂ equation
    (from_fn_is _ _ (λ j. scaled g.F.Field.arithmetic c.args.by (slice_index c.args.self.row j)) (λ i y f' k. search rules) _ _ c.from_fn.ensures.items)
    c.product.ensures
