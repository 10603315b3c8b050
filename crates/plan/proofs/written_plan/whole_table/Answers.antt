use Rattle.std.proofs.Common.{rules, slice_index}
use Rattle.std.proofs.lemmas.Option.{unwrap_or-slice_get}
use Rattle.plan.proofs.FromFn.{from_fn_is}
use Rattle.plan.proofs.written_plan.whole_table.Goals as goal

pub returns : goal.returns
returns c = from_fn_is _ _ (slice_index c.args.table.now) (λ i y f' k. (search (rules, unwrap_or-slice_get), search rules)) _ _ c.from_fn.ensures.items
