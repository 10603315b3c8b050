-- How a line is cut into tokens.
use Rattle.std.specs.Prelude.{ℕ, Bool, true, not, cond, ◌||◌, List, [], ◌∷◌, ◌==◌}

-- a space, a tab, a newline or a carriage return
abbrev pub blank : ℕ → Bool
blank c = c == 32 || (c == 9 || (c == 10 || c == 13))

-- any other byte, which stands in a token
abbrev pub solid : ℕ → Bool
solid c = not (blank c)

-- the text is empty or begins with a blank
abbrev pub apart : List ℕ → Bool
apart [] = true
apart (c ∷ rest) = blank c

-- puts a byte in front of the first token
abbrev pub onto : ℕ → List (List ℕ) → List (List ℕ)
onto c [] = (c ∷ []) ∷ []
onto c (t ∷ ts) = (c ∷ t) ∷ ts

-- the pieces of the text between blanks, without the empty ones
abbrev pub tokens : List ℕ → List (List ℕ)
tokens [] = []
tokens (c ∷ rest) = cond (blank c) (tokens rest) (cond (apart rest) ((c ∷ []) ∷ tokens rest) (onto c (tokens rest)))
