-- What the lines of the program have still to give.
use Rattle.std.specs.Prelude.{List}
use Rattle.command.specs.Cursors.{tokens_left}
use Rattle.description.specs.Lines.{Said, said_after}
use Rattle.description.specs.declared.rest.Rest.{Rest}
use Rattle.description.specs.declared.line.Line.{Line}

-- a line that was taken, as what it says
abbrev pub said : Line → Said
said l = record { at = l.number; first = l.name.now; others = tokens_left l.arguments }

-- what is said in the lines that were not taken yet
abbrev pub lines_left : Rest → List Said
lines_left r = said_after r.taken r.text.now
