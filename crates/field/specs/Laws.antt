-- What follows from the laws of a field, once for all of them.
use Rattle.std.specs.Prelude.{◌≡◌, ℕ, zero, suc, ◌%◌, ◌<◌, ◌≢◌, Some, refl}
use Rattle.std.proofs.Common.{sym, ap, ◌∙◌, mod-lt, arith}
use Rattle.field.specs.Arithmetic.{Arithmetic, Lawful, inverse_of}

-- away from zero the answer is the inverse
pub some_elsewhere : (k : Arithmetic) (a : ℕ) → a ≢ 0 → Some (k.inv a) ≡ inverse_of k a
some_elsewhere k zero h = absurd (h refl)
some_elsewhere k (suc a) h = refl

module _ (k : Arithmetic) (laws : Lawful k) where
  -- the order is at least 16
  pub zero_below : 0 < k.order
  zero_below = omega (arith, laws.order_low)

  pub one_below : 1 < k.order
  one_below = omega (arith, laws.order_low)

  -- a remainder by the order is a code
  pub code : (a : ℕ) → a % k.order < k.order
  code a = mod-lt a zero_below

  -- zero is neutral on the right too
  pub add-zero : (a : ℕ) → a < k.order → k.add a 0 ≡ a
  add-zero a l = laws.add_comm a 0 l zero_below ∙ laws.zero-add a l

  -- one is neutral on the right too
  pub mul-one : (a : ℕ) → a < k.order → k.mul a 1 ≡ a
  mul-one a l = laws.mul_comm a 1 l one_below ∙ laws.one-mul a l

  -- a code has at most one partner whose product with it is one
  pub partner_unique : (a b c : ℕ) → a < k.order → b < k.order → c < k.order → k.mul a b ≡ 1 → k.mul a c ≡ 1 → b ≡ c
  partner_unique a b c p q r e d =
      sym (laws.one-mul b q)
      ∙ ap (λ (x : ℕ). k.mul x b) (sym d ∙ laws.mul_comm a c p r)
      ∙ laws.mul_assoc c a b r p q
      ∙ ap (k.mul c) e
      ∙ mul-one c r

  -- so the inverse is the partner
  pub inverse_is : (a b : ℕ) → a < k.order → a ≢ 0 → b < k.order → k.mul a b ≡ 1 → k.inv a ≡ b
  inverse_is a b p h q e = partner_unique a (k.inv a) b p (laws.inv_below a p h) q (laws.mul-inv a p h) e

  -- and the quotient is what times the divisor is the dividend
  pub quotient_is : (a b r : ℕ) → b < k.order → b ≢ 0 → r < k.order → k.mul r b ≡ a → k.mul a (k.inv b) ≡ r
  quotient_is a b r p h q e =
      let below : k.inv b < k.order = laws.inv_below b p h in
      ap (λ (x : ℕ). k.mul x (k.inv b)) (sym e)
      ∙ laws.mul_assoc r b (k.inv b) q p below
      ∙ ap (k.mul r) (laws.mul-inv b p h)
      ∙ mul-one r q
