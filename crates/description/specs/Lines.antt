-- How a text is cut into lines.
use Rattle.std.specs.Prelude.{ℕ, Bool, not, ◌+◌, cond, ◌==◌, List, [], ◌∷◌, Some, None, Option}
use Rattle.command.specs.Lines.{naming}
use Rattle.command.specs.Tokens.{tokens, onto}

-- a line that is no remark and not blank: its number in the text, its first token, and those after it
pub record Said : Type 0 where
  pub at : ℕ
  pub first : List ℕ
  pub others : List (List ℕ)

-- any byte but a newline
abbrev pub inside : ℕ → Bool
inside c = not (c == 10)

-- the text between newlines; a newline at the end of the text begins no line
abbrev pub lines_of : List ℕ → List (List ℕ)
lines_of [] = []
lines_of (c ∷ rest) = cond (c == 10) ([] ∷ lines_of rest) (onto c (lines_of rest))

-- puts the line of this number in front, where it has a first token that is no remark
abbrev pub with_line : ℕ → Option (List ℕ × List (List ℕ)) → List Said → List Said
with_line n None after = after
with_line n (Some p) after = record { at = n; first = p.0; others = p.1 } ∷ after

-- what these lines say, where n lines stand before them: blank lines and remarks say nothing
abbrev pub said_by : ℕ → List (List ℕ) → List Said
said_by n [] = []
said_by n (l ∷ ls) = with_line (n + 1) (naming (tokens l)) (said_by (n + 1) ls)

-- what a text says, where n lines stand before it
unfoldable pub said_after : ℕ → List ℕ → List Said
said_after n text = said_by n (lines_of text)
