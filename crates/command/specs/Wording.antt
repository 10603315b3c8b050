-- What a field and a fault say of themselves.
use Rattle.std.specs.Prelude.{ℕ, List, ◌++◌, codes, decimal}
use Rattle.command.specs.declared.command.FieldName.{FieldName}
use Rattle.command.specs.declared.command.FieldName.TheVariants.{Nibble, Byte, Count}
use Rattle.command.specs.declared.command.Fault.{Fault}
use Rattle.command.specs.declared.command.Fault.TheVariants.{UnknownCommand, UnknownField, UnknownPlan, NotANumber, TokenCount, Memory}

-- the name of a field, as a script has it
abbrev pub field_name : FieldName → List ℕ
field_name Nibble = codes "nibble"
field_name Byte = codes "byte"
field_name Count = codes "count"

-- why a line gives no command
abbrev pub wording : Fault → List ℕ
wording UnknownCommand = codes "unknown command"
wording UnknownField = codes "unknown field: nibble, byte or count"
wording UnknownPlan = codes "unknown plan: powers"
wording (NotANumber token) = codes "token " ++ (decimal token ++ codes " is not a number below 4294967296")
wording TokenCount = codes "too few or too many tokens for the command"
wording Memory = codes "out of memory"
