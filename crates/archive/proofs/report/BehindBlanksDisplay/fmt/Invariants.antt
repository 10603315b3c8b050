use Rattle.std.proofs.Common.{take}
use Rattle.std.specs.Fmt.{HasWritten, IsPlainFormatter}
use Rattle.archive.specs.Texts.{after_blanks}
use Rattle.archive.proofs.report.BehindBlanksDisplay.fmt.Given as goal

-- the words so far are written
abbrev pub invariant-loop-word : goal.invariant-loop-word
invariant-loop-word g l = IsPlainFormatter l.fn.f → HasWritten g.W.Write.write_str_gives l.fn.f (after_blanks (take l.word-index l.self.0.now)) l.f
