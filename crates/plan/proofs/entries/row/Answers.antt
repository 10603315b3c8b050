use Rattle.std.proofs.Common.{rules}
use Rattle.plan.specs.Rows.{entry}
use Rattle.plan.proofs.FromFn.{from_fn_is}
use Rattle.plan.proofs.entries.row.Goals as goal

pub returns : goal.returns
returns g c = from_fn_is _ _ (entry (g.P.Plan.coefficients c.args.plan.now) c.args.bay) (λ i y f' k. search rules) _ _ c.from_fn.ensures.items
