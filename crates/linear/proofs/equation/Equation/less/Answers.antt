use Rattle.std.proofs.Common.{rules, ◌%◌, ap, ap₂, ◌∙◌, slice_index}
use Rattle.linear.specs.Equations.{lessened}
use Rattle.plan.proofs.FromFn.{from_fn_is}
use Rattle.linear.proofs.Equations.{equation}
use Rattle.linear.proofs.equation.Equation.less.Goals as goal

pub returns : goal.returns
returns g c =
    let k = g.F.Field.arithmetic in
    let s = c.args.self in
    let o = c.args.other in
    ap₂ equation
    (from_fn_is _ _ (λ j. lessened k c.args.by (slice_index o.row j) (slice_index s.row j)) (λ i y f' k. search rules) _ _ c.from_fn.ensures.items)
    (c.difference.ensures ∙ ap (λ y. k.sub (s.word % k.order) (y % k.order)) c.product.ensures)
