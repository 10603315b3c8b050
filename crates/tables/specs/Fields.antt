-- The fields of a line, and what each writes.
use Rattle.std.specs.Prelude.{ℕ, Bool, true, false, List, [], ◌∷◌, Some, None, Option, ◌==◌, codes}
use Rattle.std.specs.List.{slice_split}
use Rattle.std.specs.Option.{option_and_then}
use Rattle.std.specs.Str.{bytes_eq}
use Rattle.command.specs.Numerals.{numeral}
use Rattle.command.specs.Tokens.{tokens}

abbrev pub comma : ℕ → Bool
comma c = c == 44

-- the pieces of the line between commas
abbrev pub fields : List ℕ → List (List ℕ)
fields line = slice_split comma line

-- the one token of a field, which has no blanks and may have some around it
abbrev pub lone : List (List ℕ) → Option (List ℕ)
lone [] = None
lone (t ∷ []) = Some t
lone (t ∷ u ∷ ts) = None

-- the number of a field, below 2^32
abbrev pub field_number : List ℕ → Option ℕ
field_number field = option_and_then numeral (lone (tokens field))

abbrev pub is_place : Option (List ℕ) → Bool
is_place None = false
is_place (Some t) = bytes_eq t (codes "place")

-- the first field of a heading is `place`
abbrev pub heading : List ℕ → Bool
heading field = is_place (lone (tokens field))

abbrev pub no_token : List (List ℕ) → Bool
no_token [] = true
no_token (t ∷ ts) = false

-- a line of blanks, or of nothing
abbrev pub empty : List ℕ → Bool
empty line = no_token (tokens line)
