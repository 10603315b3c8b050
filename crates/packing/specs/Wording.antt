-- What a fault says of itself.
use Rattle.std.specs.Prelude.{ℕ, List, codes}
use Rattle.packing.specs.declared.fault.PackFault.{PackFault}
use Rattle.packing.specs.declared.fault.PackFault.TheVariants.{TooLong, NoFile, Memory}

abbrev pub wording : PackFault → List ℕ
wording TooLong = codes "the file has 4294967296 bytes or more"
wording NoFile = codes "the words begin with no file"
wording Memory = codes "out of memory"
