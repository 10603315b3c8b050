-- What a line means, whatever commands there are.
use Rattle.std.specs.Prelude.{ℕ, Bool, false, cond, ◌==◌, List, [], ◌∷◌, Some, None, Ok, Option, Result}
use Rattle.command.specs.Outcome.{following}
use Rattle.command.specs.Tokens.{tokens}
use Rattle.command.specs.declared.command.Fault.{Fault}

-- a token that begins with '#'
abbrev pub remark : List ℕ → Bool
remark [] = false
remark (c ∷ rest) = c == 35

-- a line's name and the tokens after it: there is none where the line has no token, or where its first is a remark
abbrev pub naming : List (List ℕ) → Option (List ℕ × List (List ℕ))
naming [] = None
naming (name ∷ ts) = cond (remark name) None (Some (name, ts))

-- what is said of a name and the tokens after it; no name means nothing
abbrev pub if_named : {X : Type 0} → Option (List ℕ × List (List ℕ)) → (List ℕ → List (List ℕ) → Result (Option X) Fault) → Result (Option X) Fault
if_named None meaning = Ok None
if_named (Some p) meaning = meaning p.0 p.1

-- what a line means, where its name and the tokens after it mean this
abbrev pub line_means : {X : Type 0} → List ℕ → (List ℕ → List (List ℕ) → Result (Option X) Fault) → Result (Option X) Fault
line_means line meaning = if_named (naming (tokens line)) meaning

-- what is read, as something that is there
abbrev pub present : {X : Type 0} → Result X Fault → Result (Option X) Fault
present due = following due (λ x. Ok (Some x))
