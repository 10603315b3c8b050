use Rattle.std.proofs.Common.{◌≡◌, ◌^◌, ◌<◌, drop}
use Rattle.command.specs.Numerals.{decimal, small, numeral}
use Rattle.command.proofs.number.number.Given as goal

-- what is left of the token goes on to its number
abbrev pub invariant-loop-byte : goal.invariant-loop-byte
invariant-loop-byte l =
    (small (decimal l.value (drop l.byte-index l.token)) ≡ numeral l.token) × (l.value < 2 ^ 32)
