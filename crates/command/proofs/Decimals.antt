-- How a numeral is read digit by digit.
use Rattle.std.proofs.Common.{◌≡◌, ℕ, ◌+◌, ◌-◌, ◌*◌, ◌^◌, ◌<◌, ◌≤◌, true, false, List, [], ◌∷◌, length, get_or, drop, Some, None, sym, refl, ap, ◌∙◌, ⊎_elim, arith}
use Rattle.std.specs.Char.{is_ascii_digit}
use Rattle.std.proofs.lemmas.List.{drop_more, drop_all}
use Rattle.std.proofs.lemmas.Bool.{lt-ltb, le-ltb, cases_Bool}
use Rattle.command.specs.Numerals.{decimal, small, numeral}

-- a token that is not empty is read from its first byte on
pub numeral_starts : (s : List ℕ) → 0 < length s → small (decimal 0 s) ≡ numeral s
numeral_starts [] lt = absurd (omega arith)
numeral_starts (c ∷ s) lt = refl

-- a digit goes to the end of the number before it
pub decimal_more : (s : List ℕ) (i n m : ℕ) → i < length s → true ≡ is_ascii_digit (get_or s i 0) → m ≡ n * 10 + (get_or s i 0 - 48) → decimal m (drop (i + 1) s) ≡ decimal n (drop i s)
decimal_more s i n m lt d e = rw (drop_more s i 0 lt, ← d, e)

-- another byte makes the token no numeral
pub decimal-stops : (s : List ℕ) (i n : ℕ) → i < length s → false ≡ is_ascii_digit (get_or s i 0) → decimal n (drop i s) ≡ None
decimal-stops s i n lt d = rw (drop_more s i 0 lt, ← d)

-- more digits never make a number smaller
large_stays : (s : List ℕ) (n : ℕ) → 2 ^ 32 ≤ n → small (decimal n s) ≡ None
large_stays [] n h = rw (le-ltb n (2 ^ 32) h)
large_stays (c ∷ s) n h =
    ⊎_elim (λ (d : is_ascii_digit c ≡ true). rw d (large_stays s (n * 10 + (c - 48)) (omega arith))) (λ (d : is_ascii_digit c ≡ false). rw d) (cases_Bool (is_ascii_digit c))

-- a digit that takes the number past 32 bits makes the token no numeral
pub decimal-passes : (s : List ℕ) (i n : ℕ) → i < length s → true ≡ is_ascii_digit (get_or s i 0) → 2 ^ 32 ≤ n * 10 + (get_or s i 0 - 48) → small (decimal n (drop i s)) ≡ None
decimal-passes s i n lt d h = sym (ap small (decimal_more s i n _ lt d refl)) ∙ large_stays (drop (i + 1) s) _ h

-- at the token's end the number stands
pub decimal_ends : (s : List ℕ) (i n : ℕ) → length s ≤ i → n < 2 ^ 32 → small (decimal n (drop i s)) ≡ Some n
decimal_ends s i n le h = rw (drop_all i s le, lt-ltb n (2 ^ 32) h)

-- what a loop over the digits is proved by: its start, its steps and its end
pub ruleset digits = (numeral_starts, decimal_more, decimal-stops, decimal-passes, decimal_ends)
