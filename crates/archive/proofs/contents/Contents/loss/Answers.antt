use Rattle.std.proofs.Common.{sym, subst}
use Rattle.archive.specs.Contents.{LosesIn}
use Rattle.archive.proofs.contents.Contents.loss.Goals as goal

pub returns-in-Nibble : goal.returns-in-Nibble
returns-in-Nibble c = subst (λ s. LosesIn s c.args.lost.items c.loss.result) (sym c.in-Nibble.is) c.loss.ensures

pub returns-in-Byte : goal.returns-in-Byte
returns-in-Byte c = subst (λ s. LosesIn s c.args.lost.items c.loss-in-Byte.result) (sym c.in-Byte.is) c.loss-in-Byte.ensures

pub returns-in-Count : goal.returns-in-Count
returns-in-Count c = subst (λ s. LosesIn s c.args.lost.items c.loss-in-Count.result) (sym c.in-Count.is) c.loss-in-Count.ensures
