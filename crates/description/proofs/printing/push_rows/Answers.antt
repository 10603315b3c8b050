use Rattle.std.proofs.Common.{vec_items}
use Rattle.description.proofs.Printed.{row_printed, row_small}
use Rattle.description.proofs.printing.push_rows.Goals as goal

-- the row's line is there, and those of the others are left
pub loop-row-preserved : goal.loop-row-preserved
loop-row-preserved c = record {
  text = row_printed vec_items c.args.rows.now c.loop-row.row-index c.row-item.result c.deref.result.now c.loop-row.text.items c.push_row.new.text.items _ c.loop-row-test.true c.row-item.is c.deref.ensures.value c.in_ok-push_row.ensures.printed c.loop-row.invariant.text;
  small = row_small vec_items c.args.rows.now c.loop-row.row-index c.row-item.result c.deref.result.now c.loop-row-test.true c.row-item.is c.deref.ensures.value c.in_ok-push_row.ensures.small c.loop-row.invariant.small;
}
