use Rattle.std.proofs.Common.{◌≡◌}
use Rattle.std.specs.Fmt.{HasWritten, IsPlainFormatter}
use Rattle.archive.proofs.Listing.{listed, none_of, bays_before}
use Rattle.archive.proofs.loss.DataBaysDisplay.fmt.Given as goal

-- the bays so far are written, and it is known whether there are any
abbrev pub invariant-loop-bay : goal.invariant-loop-bay
invariant-loop-bay g l =
    IsPlainFormatter l.fn.f → HasWritten g.W.Write.write_str_gives l.fn.f (listed (bays_before l.self l.bay-counter)) l.f × (l.first ≡ none_of (bays_before l.self l.bay-counter))
