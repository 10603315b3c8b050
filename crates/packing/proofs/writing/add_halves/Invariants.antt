use Rattle.std.proofs.Common.{◌≡◌, ◌++◌, drop, vec_items}
use Rattle.packing.specs.Packed.{halves}
use Rattle.packing.proofs.writing.add_halves.Given as goal

-- the words so far, and those of the bytes left, are all of them
abbrev pub invariant-loop-byte : goal.invariant-loop-byte
invariant-loop-byte l = vec_items l.fn.words ++ halves l.bytes ≡ vec_items l.words ++ halves (drop l.byte-index l.bytes)
