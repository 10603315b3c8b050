use Rattle.std.proofs.Common.{◌≡◌, ◌++◌, drop, vec_items}
use Rattle.packing.proofs.writing.add_each.Given as goal

-- the words so far, and those of the bytes left, are all of them
abbrev pub invariant-loop-byte : goal.invariant-loop-byte
invariant-loop-byte l = vec_items l.fn.words ++ l.bytes ≡ vec_items l.words ++ drop l.byte-index l.bytes
