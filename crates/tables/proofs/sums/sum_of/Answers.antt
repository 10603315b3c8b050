use Rattle.std.proofs.Common.{get_or, None, sym, ap, ◌∙◌}
use Rattle.tables.specs.Sums.{plus}
use Rattle.tables.proofs.Adding.{sum_more}
use Rattle.tables.proofs.sums.sum_of.Goals as goal

-- the sum goes on by the number
pub loop-number-preserved : goal.loop-number-preserved
loop-number-preserved c =
    let xs = c.args.numbers.now in
    let i = c.loop-number.number-index in
    c.plus-sum.ensures ∙ (ap (λ s. plus s (get_or xs i None)) c.loop-number.invariant ∙ sym (sum_more xs i None c.loop-number-test.true))
