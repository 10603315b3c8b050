use Rattle.std.proofs.Common.{◌^◌, ◌<◌, ◌≤◌, get_or, length, sym, ap, ◌∙◌, arith, below_more, subst, ℕ, Option}
use Rattle.std.specs.Option.{IfSome}
use Rattle.tables.specs.declared.cell.Cell.TheVariants.{Told}
use Rattle.tables.specs.Cells.{told}
use Rattle.tables.specs.Sums.{plus}
use Rattle.tables.proofs.Adding.{total_more}
use Rattle.tables.proofs.Telling.{is_total, small_word}
use Rattle.tables.proofs.sums.total.Goals as goal

-- the total goes on by the cell's word
pub loop-cell-preserved : goal.loop-cell-preserved
loop-cell-preserved c =
    let xs = c.args.cells.now in
    let i = c.loop-cell.cell-index in
    record {
      sum = c.plus-sum.ensures ∙ (ap (plus c.loop-cell.sum) c.word_of.ensures.value ∙ (ap (λ s. plus s (told (get_or xs i (Told 0)))) c.loop-cell.invariant.sum ∙ sym (total_more xs i (Told 0) c.loop-cell-test.true)));
      small = below_more _ _ c.loop-cell.invariant.small (small_word (get_or xs i (Told 0)) (subst (λ (o : Option ℕ). IfSome o (λ w. w < 2 ^ 32)) c.word_of.ensures.value c.word_of.ensures.small));
    }

-- all cells are counted
pub returns-clause-meaning : goal.returns-clause-meaning
returns-clause-meaning c =
    let xs = c.args.cells.now in
    let i = c.loop-cell.cell-index in
    let all : length xs ≤ i = omega arith in
    is_total xs c.loop-cell.sum i all c.loop-cell.invariant.sum c.loop-cell.invariant.small
