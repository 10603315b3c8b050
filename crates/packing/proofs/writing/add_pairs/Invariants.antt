use Rattle.std.proofs.Common.{◌≡◌, ◌*◌, ◌++◌, drop, vec_items}
use Rattle.packing.specs.Packed.{pairs}
use Rattle.packing.proofs.writing.add_pairs.Given as goal

-- the words so far, and those of the bytes left, are all of them
abbrev pub invariant-loop-i : goal.invariant-loop-i
invariant-loop-i l = vec_items l.fn.words ++ pairs l.bytes ≡ vec_items l.words ++ pairs (drop (2 * l.i) l.bytes)
