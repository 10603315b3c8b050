-- How the newlines cut a text into lines.
use Rattle.std.proofs.Common.{◌≡◌, ℕ, ◌+◌, ◌<◌, true, false, List, [], ◌∷◌, length, take, drop, refl, ap, ◌∙◌, ⊎_elim, arith}
use Rattle.std.specs.Prelude.{◌==◌}
use Rattle.std.specs.List.{prefix_len}
use Rattle.std.proofs.Math.Numerals.{one-add}
use Rattle.std.proofs.lemmas.Bool.{cases_Bool}
use Rattle.std.proofs.lemmas.List.Sums.{prefix_len-le-length}
use Rattle.command.specs.Lines.{naming}
use Rattle.command.specs.Tokens.{tokens, onto}
use Rattle.description.specs.Lines.{inside, lines_of, said_after, with_line}

-- the bytes in front of the first newline are the first line, and the others come after it
first_line : (c : ℕ) (s : List ℕ) → lines_of (c ∷ s) ≡ take (prefix_len inside (c ∷ s)) (c ∷ s) ∷ lines_of (drop 1 (drop (prefix_len inside (c ∷ s)) (c ∷ s)))
first_line c [] = ⊎_elim (λ (h : (c == 10) ≡ true). simp (h, one-add)) (λ (h : (c == 10) ≡ false). simp (h, one-add)) (cases_Bool (c == 10))
first_line c (d ∷ s) =
    ⊎_elim
    (λ (h : (c == 10) ≡ true). simp (h, one-add))
    (λ (h : (c == 10) ≡ false). simp (h, one-add) (ap (onto c) (first_line d s) ∙ simp one-add))
    (cases_Bool (c == 10))

-- so what a text says is what its first line says, and then what the others say
pub said_first : (n k : ℕ) (s t : List ℕ) → 0 < length s → k ≡ prefix_len inside s → t ≡ drop 1 (drop k s) → said_after n s ≡ with_line (n + 1) (naming (tokens (take k s))) (said_after (n + 1) t)
unfolding said_after
said_first n k [] t lt e cut = absurd (omega arith)
said_first n k (c ∷ s) t lt e cut = rw (cut, e, first_line c s)

-- a text of no bytes says nothing
pub said_end : (n : ℕ) (s : List ℕ) → length s ≡ 0 → said_after n s ≡ []
unfolding said_after
said_end n [] e = refl
said_end n (c ∷ s) e = absurd (omega arith)

-- what `cut` is proved by
pub ruleset cutting = (said_first, prefix_len-le-length)
