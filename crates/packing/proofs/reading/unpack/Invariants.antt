use Rattle.std.proofs.Common.{◌≡◌, ◌+◌, ◌-◌, ◌++◌, vec_items}
use Rattle.std.specs.Option.{option_map}
use Rattle.packing.specs.Unpacked.{bytes_from}
use Rattle.packing.proofs.reading.unpack.Given as goal

-- the bytes so far, and those left, are all of them
abbrev pub invariant-loop-i : goal.invariant-loop-i
invariant-loop-i l = bytes_from l.packing l.words 4 l.count ≡ option_map (λ bs. vec_items l.bytes ++ bs) (bytes_from l.packing l.words l.i (4 + l.count - l.i))
