-- How a comma cuts a line.
use Rattle.std.proofs.Common.{◌≡◌, ℕ, ◌+◌, ◌≤◌, true, false, refl, ⊎_elim, List, [], ◌∷◌, length, take, drop, Some, None, ◌∙◌, arith}
use Rattle.std.specs.List.{position, position_or_len}
use Rattle.std.proofs.lemmas.Bool.{cases_Bool}
use Rattle.std.proofs.lemmas.Bool.Decides.{nat_tests}
use Rattle.std.proofs.lemmas.List.{drop-drop}
use Rattle.std.proofs.lemmas.List.Splits.{slice_split_first}
use Rattle.std.proofs.lemmas.List.Quantifiers.{position-Some}
use Rattle.tables.specs.Fields.{comma, fields}

-- the first field ends at the first comma, and the others come after it
pub cut_at : (s : List ℕ) (i : ℕ) → position comma s ≡ Some i → fields s ≡ take i s ∷ fields (drop 1 (drop i s))
cut_at s i e =
    let at = position-Some comma s i 0 e in
    let here : i ≡ position_or_len comma s = grind (arith, nat_tests) in
    slice_split_first comma s 0 (omega arith) ∙ rw (← here, drop-drop 1 i s)

-- a line with no comma is one field
whole_line : (s : List ℕ) → length s ≤ position_or_len comma s → fields s ≡ s ∷ []
whole_line [] h = refl
whole_line (c ∷ s) h =
    ⊎_elim
    (λ (e : comma c ≡ true). absurd (let none : position_or_len comma (c ∷ s) ≡ 0 = rw e in let v : ⊥ = omega arith in v))
    (λ (e : comma c ≡ false). let more : position_or_len comma (c ∷ s) ≡ 1 + position_or_len comma s = rw e in rw (e, whole_line s (omega arith)))
    (cases_Bool (comma c))

pub no_cut : (s : List ℕ) → position comma s ≡ None → fields s ≡ s ∷ []
no_cut s e = let all : length s ≤ position_or_len comma s = grind (arith, nat_tests) in whole_line s all

pub ruleset cutting = (cut_at, no_cut)
