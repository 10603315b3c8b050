-- What the tokens after a line's name mean, where they are numbers, by how many there may be.
use Rattle.std.specs.Prelude.{ℕ, cond, ◌==◌, length, List, [], ◌∷◌, Ok, Err, Result}
use Rattle.command.specs.Numerals.{numerals}
use Rattle.command.specs.Outcome.{following}
use Rattle.command.specs.declared.command.Fault.{Fault}
use Rattle.command.specs.declared.command.Fault.TheVariants.{TokenCount}

-- n numbers and no more
abbrev pub exactly : ℕ → List ℕ → Result (List ℕ) Fault
exactly n ns = cond (length ns == n) (Ok ns) (Err TokenCount)

-- any number of them
abbrev pub any : List ℕ → Result (List ℕ) Fault
any ns = Ok ns

-- a number, and any number of others
abbrev pub one_and_rest : List ℕ → Result (ℕ × List ℕ) Fault
one_and_rest [] = Err TokenCount
one_and_rest (a ∷ rest) = Ok (a, rest)

-- the numbers of all these tokens, from the i-th of the line on; where a token is none, that is the fault, and not their count
abbrev pub counted : {N : Type 0} → (List ℕ → Result N Fault) → ℕ → List (List ℕ) → Result N Fault
counted form i ts = following (numerals i ts) form

-- what is made of those numbers
abbrev pub taking : {N X : Type 0} → (List ℕ → Result N Fault) → ℕ → List (List ℕ) → (N → X) → Result X Fault
taking form i ts make = following (counted form i ts) (λ n. Ok (make n))
