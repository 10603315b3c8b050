-- What a cursor still has to give.
use Rattle.std.specs.Prelude.{ℕ, List}
use Rattle.command.specs.Tokens.{tokens}
use Rattle.command.specs.declared.cursor.Cursor.{Cursor}

-- the tokens that were not taken yet
abbrev pub tokens_left : Cursor → List (List ℕ)
tokens_left c = tokens c.rest.now
