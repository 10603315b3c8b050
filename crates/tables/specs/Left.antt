-- The fields of a line that are left.
use Rattle.std.specs.Prelude.{ℕ, List, [], Some, None, Option}
use Rattle.std.specs.Borrow.{Bor}
use Rattle.tables.specs.declared.fields.Fields.{Fields}
use Rattle.tables.specs.Fields.{fields}

-- the fields after a comma, where there was one
abbrev pub fields_after : Option (Bor (List ℕ)) → List (List ℕ)
fields_after None = []
fields_after (Some text) = fields text.now

-- the fields that were not taken yet
abbrev pub fields_left : Fields → List (List ℕ)
fields_left f = fields_after f.rest
