use Rattle.std.proofs.Common.{◌≡◌, ◌++◌, drop, map, vec_items}
use Rattle.description.specs.Printing.{printed, row_line}
use Rattle.description.specs.Small.{AreSmall}
use Rattle.description.proofs.printing.push_rows.Given as goal

-- what is there and the lines of the rows left make up the text, and the codes fit where those of the rows left do
abbrev pub invariant-loop-row : goal.invariant-loop-row
invariant-loop-row l = record {
  text : l.text.items ++ printed (map row_line (map vec_items (drop l.row-index l.rows))) ≡ l.fn.text.items ++ printed (map row_line (map vec_items l.rows));
  small : AreSmall (map vec_items (drop l.row-index l.rows)) → AreSmall (map vec_items l.rows);
}
