-- What is printed of a place and its words is read as these.
use Rattle.std.proofs.Common.{◌≡◌, ℕ, suc, ◌+◌, ◌-◌, ◌*◌, ◌/◌, ◌%◌, ◌^◌, ◌<◌, ◌≤◌, Bool, true, false, cond, List, [], ◌∷◌, ◌++◌, length, map, Some, Ok, Option, Result, codes, refl, ap, ◌∙◌, subst, ⊎_elim, arith, length-append}
use Rattle.std.specs.Char.{is_ascii_digit}
use Rattle.std.specs.Fmt.{decimal}
use Rattle.std.specs.List.{All}
use Rattle.std.specs.Option.{option_map, option_and_then}
use Rattle.std.specs.Str.{bytes_eq}
use Rattle.std.proofs.lemmas.Bool.{cases_Bool, lt-ltb, ne_eqb}
use Rattle.std.proofs.lemmas.Bool.Decides.{nat_tests}
use Rattle.std.proofs.lemmas.Fmt.{decimal_by_steps}
use Rattle.std.proofs.lemmas.List.{append-nil}
use Rattle.std.proofs.lemmas.List.Elements.{All-push}
use Rattle.std.proofs.lemmas.List.Splits.{slice_split_at, slice_split_none}
use Rattle.command.specs.Numerals as numerals
use Rattle.command.specs.Numerals.{numeral, small}
use Rattle.command.specs.Tokens.{blank, apart, onto, tokens}
use Rattle.tables.specs.declared.row.Row.{Row}
use Rattle.tables.specs.declared.row.RowFault.{RowFault}
use Rattle.tables.specs.Fields.{comma, fields, field_number, heading, no_token, empty}
use Rattle.tables.specs.Rows.{words_from, row_line, row_meant, Answers, ReadsRow, ReadsBack}
use Rattle.tables.specs.Texts.{after_commas, row_text}

-- a decimal digit
abbrev Digit : ℕ → Type 0
Digit c = (48 ≤ c) × (c < 58)

is_digit : (c : ℕ) → Digit c → is_ascii_digit c ≡ true
is_digit c h = let l = h.0 in let u = h.1 in grind (arith, nat_tests)

-- is no blank and no comma
not_blank : (c : ℕ) → Digit c → blank c ≡ false
not_blank c h = let l = h.0 in let u = h.1 in grind (arith, nat_tests)

not_comma : (c : ℕ) → Digit c → comma c ≡ false
not_comma c h = let l = h.0 in ne_eqb c 44 (λ e. omega arith)

-- digits are read on from the number of those before them
read_on : (cs ds : List ℕ) (n : ℕ) → numerals.decimal n (cs ++ ds) ≡ option_and_then (λ m. numerals.decimal m ds) (numerals.decimal n cs)
read_on [] ds n = refl
read_on (c ∷ cs) ds n =
    ⊎_elim (λ (h : is_ascii_digit c ≡ true). rw h (read_on cs ds (n * 10 + (c - 48)))) (λ (h : is_ascii_digit c ≡ false). rw h) (cases_Bool (is_ascii_digit c))

-- digits that are read as a number
record Writes (n : ℕ) (ds : List ℕ) : Type 0 where
  some : 0 < length ds
  digits : All Digit ds
  read : numerals.decimal 0 ds ≡ Some n

one_digit : (n m : ℕ) → n < 10 → numerals.decimal m ((48 + n) ∷ []) ≡ Some (m * 10 + n)
one_digit n m h =
    let e : 48 + n - 48 ≡ n = omega arith in
    rw (is_digit (48 + n) (omega arith, omega arith), e)

-- what is printed of a number is so
printed : (n : ℕ) → n < 2 ^ 64 → Writes n (decimal n)
printed n h = decimal_by_steps Writes one more n h
  where
    one : (n : ℕ) → n < 10 → Writes n ((48 + n) ∷ [])
    one n l = record {
      some = omega arith;
      digits = All-push Digit [] (48 + n) (λ k d g. absurd (omega arith)) (omega arith, omega arith);
      read = one_digit n 0 l ∙ (let e : 0 * 10 + n ≡ n = omega arith in ap Some e);
    }

    more : (n : ℕ) (ds : List ℕ) → 10 ≤ n → Writes (n / 10) ds → Writes n (ds ++ ((48 + n % 10) ∷ []))
    more n ds l w = record {
      some = let s = w.some in rw length-append (omega arith);
      digits = All-push Digit ds (48 + n % 10) w.digits (omega arith, omega arith);
      read = read_on ds ((48 + n % 10) ∷ []) 0 ∙ (rw w.read (one_digit (n % 10) (n / 10) (omega arith) ∙ (let e : n / 10 * 10 + n % 10 ≡ n = omega arith in ap Some e)));
    }

-- digits are one token
one_token : (ds : List ℕ) → 0 < length ds → All Digit ds → tokens ds ≡ ds ∷ []
one_token [] h all = absurd (omega arith)
one_token (c ∷ []) h all = rw (not_blank c (all 0 c (omega arith)))
one_token (c ∷ d ∷ ds) h all =
    let rest = one_token (d ∷ ds) (omega arith) (λ k e l. all (suc k) e (omega arith)) in
    rw (rest, not_blank c (all 0 c (omega arith)), not_blank d (all 1 c (omega arith)))

-- so a number of 32 bits is read from a field that it is printed in
numeral_back : (ds : List ℕ) (n : ℕ) → Writes n ds → n < 2 ^ 32 → numeral ds ≡ Some n
numeral_back [] n w h = absurd (let s = w.some in omega arith)
numeral_back (c ∷ cs) n w h = rw (w.read, lt-ltb n (2 ^ 32) h)

number_back : (n : ℕ) → n < 2 ^ 32 → field_number (decimal n) ≡ Some n
number_back n h =
    let w = printed n (omega arith) in
    rw (one_token (decimal n) w.some w.digits) (numeral_back (decimal n) n w h)

-- a field of digits is no heading
not_place : (ds : List ℕ) → All Digit ds → bytes_eq ds (codes "place") ≡ false
not_place [] all = refl
not_place (c ∷ cs) all = let l = (all 0 c (omega arith)).1 in rw (ne_eqb c 112 (λ e. omega arith))

no_heading : (n : ℕ) → n < 2 ^ 32 → heading (decimal n) ≡ false
no_heading n h =
    let w = printed n (omega arith) in
    rw (one_token (decimal n) w.some w.digits) (not_place (decimal n) w.digits)

-- a text that begins with a digit is not empty
onto_some : (c : ℕ) (ts : List (List ℕ)) → no_token (onto c ts) ≡ false
onto_some c [] = refl
onto_some c (t ∷ ts) = refl

not_empty : (ds rest : List ℕ) → 0 < length ds → All Digit ds → empty (ds ++ rest) ≡ false
not_empty [] rest h all = absurd (omega arith)
not_empty (c ∷ ds) rest h all = rw (not_blank c (all 0 c (omega arith))) (go (apart (ds ++ rest)))
  where
    go : (b : Bool) → no_token (cond b ((c ∷ []) ∷ tokens (ds ++ rest)) (onto c (tokens (ds ++ rest)))) ≡ false
    go true = refl
    go false = onto_some c (tokens (ds ++ rest))

-- the fields of a printed row are its numbers
fields_back : (n : ℕ) (ws : List ℕ) → n < 2 ^ 32 → All (λ w. w < 2 ^ 32) ws → fields (row_text n ws) ≡ decimal n ∷ map decimal ws
fields_back n [] h all =
    let w = printed n (omega arith) in
    ap fields (append-nil (decimal n)) ∙ slice_split_none comma (decimal n) (λ k d l. not_comma _ (w.digits k d l))
fields_back n (m ∷ ws) h all =
    let w = printed n (omega arith) in
    slice_split_at comma (decimal n) 44 (row_text m ws) (λ k d l. not_comma _ (w.digits k d l)) refl
    ∙ ap (λ fs. decimal n ∷ fs) (fields_back m ws (all 0 0 (omega arith)) (λ k d l. all (suc k) d (omega arith)))

-- and these are read
words_back : (i : ℕ) (ws : List ℕ) → All (λ w. w < 2 ^ 32) ws → words_from i (map decimal ws) ≡ Ok ws
words_back i [] all = refl
words_back i (w ∷ ws) all = rw (number_back w (all 0 0 (omega arith)), words_back (i + 1) ws (λ k d l. all (suc k) d (omega arith)))

row_back : (place : ℕ) (words : List ℕ) → place < 2 ^ 32 → All (λ w. w < 2 ^ 32) words → 0 < length words → row_line (row_text place words) ≡ Ok (Some (place, words))
row_back place [] h all some = absurd (omega arith)
row_back place (w ∷ ws) h all some =
    let p = printed place (omega arith) in
    rw (not_empty (decimal place) (after_commas decimal (w ∷ ws)) p.some p.digits, fields_back place (w ∷ ws) h all, no_heading place h, number_back place h, words_back 2 (w ∷ ws) all)

-- so what a printed row is read as, as the reading promises, is the row
pub reads_back : (line : List ℕ) (r : Result (Option Row) RowFault) → ReadsRow line r → ReadsBack line r
reads_back line r h = λ place words a b c e. subst (λ due. Answers (option_map row_meant) due r) (ap row_line e ∙ row_back place words a b c) h
