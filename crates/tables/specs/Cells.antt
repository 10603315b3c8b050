-- What a cell holds.
use Rattle.std.specs.Prelude.{ℕ, Some, None, Option, unwrap_or}
use Rattle.std.specs.Option.{IsSome}
use Rattle.tables.specs.declared.cell.Cell.{Cell}
use Rattle.tables.specs.declared.cell.Cell.TheVariants.{Told, Lost, Torn}

-- the word of a cell, if it is told
abbrev pub told : Cell → Option ℕ
told (Told w) = Some w
told Lost = None
told Torn = None

abbrev pub IsTold : Cell → Type 0
IsTold c = IsSome (told c)

-- the word of a cell that is told
abbrev pub word : Cell → ℕ
word c = unwrap_or (told c) 0
