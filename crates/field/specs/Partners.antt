-- A code with a partner, one whose product with it is 1, has such a one as its inverse.
use Rattle.std.specs.Prelude.{◌≡◌, ℕ, zero, suc, ◌<◌, Bool, true, nat_eq}
use Rattle.std.proofs.Common.{sym, ap, ◌∙◌, inl, inr, arith}
use Rattle.std.proofs.lemmas.Bool.{both_ways, cases_lt, cond_both, eq-eqb, eqb-true}
use Rattle.field.specs.Inverse.{pick, inverse_by}

-- where some number below n passes, the picked one does: the last of them, or one below
pub pick_right : (f : ℕ → Bool) (n k : ℕ) → k < n → f k ≡ true → (pick f n < n) × (f (pick f n) ≡ true)
unfolding pick
pick_right f zero k h t = absurd (omega arith)
pick_right f (suc n) k h t =
    cond_both (f n) n (pick f n) (λ r. (r < suc n) × (f r ≡ true))
    (λ e. (omega arith, e))
    (λ e. elim (cases_lt k n) [
      | inl d ↦ let r = pick_right f n k d t in (omega arith, r.1)
      | inr d ↦ let last : k ≡ n = omega arith in absurd (both_ways (f n) e (ap f (sym last) ∙ t))
    ])

module _ (q : ℕ) (mul : ℕ → ℕ → ℕ) where
  -- the partner shows that the inverse is one
  pub inverse_below : (a b : ℕ) → b < q → mul a b ≡ 1 → inverse_by q mul a < q
  unfolding inverse_by
  inverse_below a b l e = (pick_right (λ b. nat_eq (mul a b) 1) q b l (eq-eqb _ _ e)).0

  pub inverse_right : (a b : ℕ) → b < q → mul a b ≡ 1 → mul a (inverse_by q mul a) ≡ 1
  unfolding inverse_by
  inverse_right a b l e = eqb-true _ _ (pick_right (λ b. nat_eq (mul a b) 1) q b l (eq-eqb _ _ e)).1
