-- What a token means as a number.
use Rattle.std.specs.Prelude.{ℕ, ◌+◌, ◌-◌, ◌*◌, ◌^◌, cond, List, [], ◌∷◌, Some, None, Ok, Err, Option, Result, nat_lt}
use Rattle.std.specs.Char.{is_ascii_digit}
use Rattle.command.specs.Outcome.{following}
use Rattle.command.specs.declared.command.Fault.{Fault}
use Rattle.command.specs.declared.command.Fault.TheVariants.{NotANumber}

-- the value of decimal digits that follow the number n; none where a byte is no digit
abbrev pub decimal : ℕ → List ℕ → Option ℕ
decimal n [] = Some n
decimal n (c ∷ cs) = cond (is_ascii_digit c) (decimal (n * 10 + (c - 48)) cs) None

-- a number of 32 bits
abbrev pub small : Option ℕ → Option ℕ
small None = None
small (Some n) = cond (nat_lt n (2 ^ 32)) (Some n) None

-- the number below 2^32 that a token's one or more decimal digits write
abbrev pub numeral : List ℕ → Option ℕ
numeral [] = None
numeral (c ∷ cs) = small (decimal 0 (c ∷ cs))

-- the number of a token, which is the i-th of its line
abbrev pub read_at : ℕ → Option ℕ → Result ℕ Fault
read_at i None = Err (NotANumber i)
read_at i (Some n) = Ok n

-- the numbers of all these tokens, from the i-th of the line on, or the position of the first that is none
abbrev pub numerals : ℕ → List (List ℕ) → Result (List ℕ) Fault
numerals i [] = Ok []
numerals i (t ∷ ts) = following (read_at i (numeral t)) (λ n. following (numerals (i + 1) ts) (λ ns. Ok (n ∷ ns)))
