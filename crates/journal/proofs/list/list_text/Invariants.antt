use Rattle.std.proofs.Common.{◌≡◌, map, take}
use Rattle.std.specs.String.{string_bytes}
use Rattle.journal.specs.Lists.{listed}
use Rattle.journal.proofs.list.list_text.Given as goal

-- the paths so far are listed
abbrev pub invariant-loop-path : goal.invariant-loop-path
invariant-loop-path l = string_bytes l.text ≡ listed (map string_bytes (take l.path-index l.paths))
