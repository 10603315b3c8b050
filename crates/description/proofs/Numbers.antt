-- How a printed number is read again.
use Rattle.std.proofs.Common.{◌≡◌, ℕ, ◌+◌, ◌-◌, ◌*◌, ◌/◌, ◌%◌, ◌^◌, ◌<◌, ◌≤◌, Bool, true, false, ◌&&◌, List, [], ◌∷◌, ◌++◌, Some, Ok, length, map, refl, ap, ◌∙◌, ⊎_elim, arith}
use Rattle.std.specs.Char.{is_ascii_digit}
use Rattle.std.specs.Fmt as fmt
use Rattle.std.specs.List.{AllByRecursion}
use Rattle.std.proofs.lemmas.Fmt.{decimal_by_steps, decimal_nonempty}
use Rattle.std.proofs.lemmas.Bool.{lt-ltb, and_parts, cases_Bool}
use Rattle.std.proofs.lemmas.Bool.Decides.{nat_tests}
use Rattle.command.specs.Numerals.{decimal, small, numeral, numerals}
use Rattle.command.specs.Tokens.{solid}
use Rattle.description.specs.Printable.{each_solid, IsToken}
use Rattle.description.specs.Small.{IsSmall}

-- each byte of it is a digit
abbrev pub each_digit : List ℕ → Bool
each_digit [] = true
each_digit (c ∷ cs) = is_ascii_digit c && each_digit cs

-- the bytes are digits, and their value is this number
pub record Writes (n : ℕ) (s : List ℕ) : Type 0 where
  value : decimal 0 s ≡ Some n
  digits : each_digit s ≡ true

-- ten and less than ten make one more digit
value_more : (s : List ℕ) (m k c : ℕ) → is_ascii_digit c ≡ true → decimal m s ≡ Some k → decimal m (s ++ c ∷ []) ≡ Some (k * 10 + (c - 48))
value_more [] m k c d e = rw d (cc)
value_more (x ∷ s) m k c d e =
    ⊎_elim
    (λ (h : is_ascii_digit x ≡ true). rw h (value_more s (m * 10 + (x - 48)) k c d (rw h at e)))
    (λ (h : is_ascii_digit x ≡ false). let e' = rw h at e in absurd (cc))
    (cases_Bool (is_ascii_digit x))

digits_more : (s : List ℕ) (c : ℕ) → is_ascii_digit c ≡ true → each_digit s ≡ true → each_digit (s ++ c ∷ []) ≡ true
digits_more [] c d e = rw d refl
digits_more (x ∷ s) c d e = let p = and_parts (is_ascii_digit x) (each_digit s) e in rw p.0 (digits_more s c d p.1)

-- a digit is a byte from 48 to 57
digit : (n : ℕ) → n < 10 → is_ascii_digit (48 + n) ≡ true
digit n lt = grind (arith, nat_tests)

written_one : (n : ℕ) → n < 10 → Writes n ((48 + n) ∷ [])
written_one n lt = record { value = rw (digit n lt) (ap Some (omega arith)); digits = rw (digit n lt) refl }

written_more : (n : ℕ) (ds : List ℕ) → 10 ≤ n → Writes (n / 10) ds → Writes n (ds ++ ((48 + n % 10) ∷ []))
written_more n ds le w =
    let d = digit (n % 10) (omega arith) in
    let v : n / 10 * 10 + (48 + n % 10 - 48) ≡ n = omega arith in
    record { value = value_more ds 0 (n / 10) (48 + n % 10) d w.value ∙ ap Some v; digits = digits_more ds (48 + n % 10) d w.digits }

-- what is printed of a number are digits that have it as their value
written_decimal : (n : ℕ) → n < 2 ^ 64 → Writes n (fmt.decimal n)
written_decimal = decimal_by_steps Writes written_one written_more

-- a digit is no blank
digit_solid : (c : ℕ) → is_ascii_digit c ≡ true → solid c ≡ true
digit_solid c h = grind (arith, nat_tests)

digits_solid : (s : List ℕ) → each_digit s ≡ true → each_solid s ≡ true
digits_solid [] h = refl
digits_solid (c ∷ s) h = let p = and_parts (is_ascii_digit c) (each_digit s) h in rw (digit_solid c p.0) (digits_solid s p.1)

-- what is printed of a number is a token
pub number_token : (n : ℕ) → IsSmall n → IsToken (fmt.decimal n)
number_token n lt = (decimal_nonempty n (omega arith), digits_solid (fmt.decimal n) (written_decimal n (omega arith)).digits)

numeral_from : (s : List ℕ) (n : ℕ) → 0 < length s → decimal 0 s ≡ Some n → n < 2 ^ 32 → numeral s ≡ Some n
numeral_from [] n lt e h = absurd (omega arith)
numeral_from (c ∷ s) n lt e h = ap small e ∙ rw (lt-ltb n (2 ^ 32) h) refl

-- and that token is read as the number
pub number_back : (n : ℕ) → IsSmall n → numeral (fmt.decimal n) ≡ Some n
number_back n lt = numeral_from (fmt.decimal n) n (decimal_nonempty n (omega arith)) (written_decimal n (omega arith)).value lt

-- so are the numbers of a line
pub numbers_back : (i : ℕ) (ns : List ℕ) → AllByRecursion IsSmall ns → numerals i (map fmt.decimal ns) ≡ Ok ns
numbers_back i [] h = refl
numbers_back i (n ∷ ns) h = rw (number_back n h.0, numbers_back (i + 1) ns h.1) refl

pub numbers_tokens : (ns : List ℕ) → AllByRecursion IsSmall ns → AllByRecursion IsToken (map fmt.decimal ns)
numbers_tokens [] h = tt
numbers_tokens (n ∷ ns) h = (number_token n h.0, numbers_tokens ns h.1)
