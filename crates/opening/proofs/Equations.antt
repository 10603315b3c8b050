-- The equations of the words of a place, one bay more at a time.
use Rattle.std.proofs.Common.{◌≡◌, ℕ, ◌+◌, ◌<◌, List, [], ◌∷◌, ◌++◌, length, Option, Some, None, sym, refl, ◌∙◌, subst, inl, inr, arith}
use Rattle.std.specs.List.{All}
use Rattle.std.proofs.lemmas.Bool.{cases_lt}
use Rattle.std.proofs.lemmas.Option.{same_Some}
use Rattle.std.proofs.lemmas.List.{length_push, get_or_push, get_or_append_left}
use Rattle.std.proofs.lemmas.List.Elements.{All-push}
use Rattle.field.specs.Arithmetic.{Arithmetic}
use Rattle.plan.specs.Coefficients.{Coefficients}
use Rattle.linear.specs.declared.equation.Equation.{Equation}
use Rattle.linear.specs.Equations.{Satisfies}
use Rattle.array.specs.Finding.{bay_word}
use Rattle.opening.specs.Words.{word_at, EquationsOf}

-- What holds of each element of a list with one more: it is an earlier one, or the last.
one_more : (P : ℕ → Type 0) (n : ℕ) → ((b : ℕ) → b < n → P b) → P n → (b : ℕ) → b < n + 1 → P b
one_more P n before last b d = elim (cases_lt b n) [
  | inl earlier ↦ before b earlier
  | inr here ↦ let at : n ≡ b = omega arith in subst P at last
]

module _ (k : Arithmetic) (x : Coefficients) (cells : List (Option ℕ)) where
  module _ (n : ℕ) (es : List Equation) (h : EquationsOf k x cells n es) where
    -- a bay that gave none adds nothing
    pub equation_none : word_at cells n ≡ None → EquationsOf k x cells (n + 1) es
    equation_none none = record {
      few = let a = h.few in omega arith;
      to = λ v all. h.to v (λ b w d is. all b w (omega arith) is);
      from = λ v all b w d is. one_more (λ b. word_at cells b ≡ Some w → Satisfies k v (bay_word x b w)) n (λ b d is. h.from v all b w d is) (λ is. absurd (no_some (word_at cells n) w none is)) b d is;
    }
      where
        no_some : (c : Option ℕ) (w : ℕ) → c ≡ None → c ≡ Some w → ⊥
        no_some c w e f = let z : ◌≡◌ {A = ℕ} 0 1 = cc in let y : ⊥ = omega arith in y

    -- and one that gave a word adds its row
    pub equation_more : (w : ℕ) → word_at cells n ≡ Some w → EquationsOf k x cells (n + 1) (es ++ bay_word x n w ∷ [])
    equation_more w some = record {
      few = let a = h.few in let b = length_push es (bay_word x n w) in omega arith;
      to = λ v all. All-push (Satisfies k v) es (bay_word x n w) (h.to v (λ b u d is. all b u (omega arith) is)) (all n w (omega arith) some);
      from = λ v all b u d is.
          one_more (λ b. word_at cells b ≡ Some u → Satisfies k v (bay_word x b u)) n
          (λ b d is. h.from v (earlier v all) b u d is)
          (λ is. subst (λ u. Satisfies k v (bay_word x n u)) (same_Some w u (sym some ∙ is)) (last v all))
          b d is;
    }
      where
        earlier : (v : List ℕ) → All (Satisfies k v) (es ++ bay_word x n w ∷ []) → All (Satisfies k v) es
        earlier v all i d within = subst (Satisfies k v) (get_or_append_left es (bay_word x n w ∷ []) d i within) (all i d (let long = length_push es (bay_word x n w) in omega arith))

        last : (v : List ℕ) → All (Satisfies k v) (es ++ bay_word x n w ∷ []) → Satisfies k v (bay_word x n w)
        last v all = subst (Satisfies k v) (get_or_push es (bay_word x n w) (bay_word x n w) (length es) refl) (all (length es) (bay_word x n w) (let long = length_push es (bay_word x n w) in omega arith))
