-- The arithmetic of each field that a script can name.
use Rattle.field.specs.Arithmetic.{Arithmetic}
use Rattle.field.specs.Fields as fields
use Rattle.command.specs.declared.command.FieldName.{FieldName}
use Rattle.command.specs.declared.command.FieldName.TheVariants as name

abbrev pub arithmetic_of : FieldName → Arithmetic
arithmetic_of name.Nibble = fields.nibble
arithmetic_of name.Byte = fields.byte
arithmetic_of name.Count = fields.count
