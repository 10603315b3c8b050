-- How the runs of blanks and of other bytes cut a text into its tokens.
use Rattle.std.proofs.Common.{◌≡◌, ℕ, ◌+◌, ◌<◌, ◌≤◌, true, false, List, [], ◌∷◌, length, get_or, take, drop, Some, None, refl, sym, ap, ◌∙◌, ⊎_elim, arith}
use Rattle.std.specs.List.{position, position_or_len, prefix_len}
use Rattle.std.proofs.Math.Numerals.{one-add}
use Rattle.std.proofs.lemmas.Bool.{cases_Bool, not-true}
use Rattle.std.proofs.lemmas.Bool.Decides.{nat_tests}
use Rattle.std.proofs.lemmas.List.{drop_all, drop_more}
use Rattle.std.proofs.lemmas.List.Sums.{prefix_len-le-length}
use Rattle.std.proofs.lemmas.List.Quantifiers.{position-Some}
use Rattle.command.specs.Tokens.{blank, solid, tokens}

-- the blanks in front of the first other byte make no token
skip_blanks : (s : List ℕ) → tokens s ≡ tokens (drop (position_or_len solid s) s)
skip_blanks [] = refl
skip_blanks (c ∷ rest) =
    ⊎_elim (λ (h : blank c ≡ true). simp (h, one-add) (skip_blanks rest)) (λ (h : blank c ≡ false). simp h) (cases_Bool (blank c))

-- a text that is all blanks has no token
pub no_token : (s : List ℕ) → position solid s ≡ None → tokens s ≡ []
no_token s e =
    let all : length s ≤ position_or_len solid s = grind (arith, nat_tests) in
    skip_blanks s ∙ ap tokens (drop_all (position_or_len solid s) s all)

-- the first bytes that are no blanks are the first token, and the others come after it
first_token : (c : ℕ) (rest : List ℕ) → blank c ≡ false → tokens (c ∷ rest) ≡ take (prefix_len solid (c ∷ rest)) (c ∷ rest) ∷ tokens (drop (prefix_len solid (c ∷ rest)) (c ∷ rest))
first_token c [] h = simp (h, one-add)
first_token c (d ∷ rest) h =
    ⊎_elim
    (λ (k : blank d ≡ true). simp (h, k, one-add))
    (λ (k : blank d ≡ false). simp (h, k, one-add, simp (k, one-add) at (first_token d rest k)))
    (cases_Bool (blank d))

-- so are those of a text from a byte on that is no blank, since it goes on with that byte
begins : (s : List ℕ) (i : ℕ) → i < length s → blank (get_or s i 0) ≡ false → tokens (drop i s) ≡ take (prefix_len solid (drop i s)) (drop i s) ∷ tokens (drop (prefix_len solid (drop i s)) (drop i s))
begins s i lt h = rw (drop_more s i 0 lt) (first_token (get_or s i 0) (drop (i + 1) s) h)

-- the first token begins at the first byte that is no blank and ends at the next blank, and the others come after it
pub one_token : (s t : List ℕ) (i n : ℕ) → position solid s ≡ Some i → t ≡ drop i s → n ≡ prefix_len solid t → tokens s ≡ take n t ∷ tokens (drop n t)
one_token s t i n e cut end =
    let at = position-Some solid s i 0 e in
    let here : i ≡ position_or_len solid s = grind (arith, nat_tests) in
    rw (end, cut) (skip_blanks s ∙ ap (λ k. tokens (drop k s)) (sym here) ∙ begins s i at.0 (not-true _ at.1))

-- what `next` is proved by: its two outcomes, and that no token is longer than its text
pub ruleset cutting = (no_token, one_token, prefix_len-le-length)
