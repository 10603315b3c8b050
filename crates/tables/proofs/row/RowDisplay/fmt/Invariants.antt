use Rattle.std.proofs.Common.{take, vec_items}
use Rattle.std.specs.Fmt.{HasWritten, IsPlainFormatter}
use Rattle.tables.specs.Texts.{row_text}
use Rattle.tables.proofs.row.RowDisplay.fmt.Given as goal

-- the place and the words so far are written
abbrev pub invariant-loop-word : goal.invariant-loop-word
invariant-loop-word g l = IsPlainFormatter l.fn.f → HasWritten g.W.Write.write_str_gives l.fn.f (row_text l.self.place (take l.word-index (vec_items l.self.words))) l.f
