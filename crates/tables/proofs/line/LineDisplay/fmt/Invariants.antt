use Rattle.std.proofs.Common.{◌++◌, take}
use Rattle.std.specs.Fmt.{HasWritten, IsPlainFormatter}
use Rattle.std.specs.Fmt.{decimal}
use Rattle.tables.specs.Texts.{after_commas, cell_text}
use Rattle.tables.proofs.line.LineDisplay.fmt.Given as goal

-- the place and the cells so far are written
abbrev pub invariant-loop-cell : goal.invariant-loop-cell
invariant-loop-cell g l = IsPlainFormatter l.fn.f → HasWritten g.W.Write.write_str_gives l.fn.f (decimal l.self.place ++ after_commas cell_text (take l.cell-index l.self.cells.now)) l.f
