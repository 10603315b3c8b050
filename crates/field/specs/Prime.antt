-- 65537 is prime: no number from 2 to 256 divides it, which antt computes, and a larger divisor has one below.
use Rattle.std.specs.Prelude.{◌≡◌, ℕ, zero, suc, ◌+◌, ◌-◌, ◌*◌, ◌/◌, ◌%◌, ◌<◌, ◌≤◌, Bool, not, ◌≢◌, ◌==◌, refl}
use Rattle.std.proofs.Common.{ap, ◌∙◌, inl, inr, mul-zero, mul-one, mul-le-mul, arith}
use Rattle.std.proofs.Math.Nat.{div-add-mod, mul-mod_left}
use Rattle.std.proofs.lemmas.Bool.{cases_lt, eqb-false, not-true}
use Rattle.field.specs.Residues.{Prime}
use Rattle.field.specs.Checks.{all_at}

-- d + 2 does not divide 65537
small_test : ℕ → Bool
small_test d = not (65537 % (d + 2) == 0)

-- no number from 2 to 256 divides it: computed
small : (d : ℕ) → 1 < d → d < 257 → 65537 % d ≢ 0
unfolding small_test
small d l h e =
    let back : d - 2 + 2 ≡ d = omega arith in
    eqb-false (65537 % (d - 2 + 2)) 0 (not-true _ (all_at small_test 255 refl (d - 2) (omega arith))) (ap (λ (x : ℕ). 65537 % x) back ∙ e)

-- a divisor above 256 has a cofactor below 257, since 257 × 257 is larger than 65537
large : (d e : ℕ) → 256 < d → d < 65537 → 65537 ≢ d * e
large d zero l h p = absurd (omega (arith, mul-zero d))
large d (suc zero) l h p = absurd (omega (arith, mul-one d))
large d (suc (suc e)) l h p = elim (cases_lt (suc (suc e)) 257) [
  | inl s ↦ small (suc (suc e)) (omega arith) s (ap (λ (x : ℕ). x % suc (suc e)) p ∙ mul-mod_left d (suc (suc e)))
  | inr s ↦
      let big : 257 * 257 ≤ d * suc (suc e) = mul-le-mul {n₁ = 257} {m₁ = 257} (omega arith) (omega arith) in
      omega arith
]

-- so there is no divisor at all
pub prime : Prime 65537
prime d l h e = elim (cases_lt d 257) [
  | inl s ↦ small d l s e
  | inr s ↦ large d (65537 / d) (omega arith) h (omega (arith, div-add-mod 65537 d))
]
