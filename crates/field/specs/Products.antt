-- The product of binary polynomials modulo one, over the width: it keeps the exclusive or in both arguments, so a test at the powers of x
-- proves its laws at every code.
use Rattle.std.specs.Prelude.{◌≡◌, ℕ, zero, suc, ◌+◌, ◌*◌, ◌/◌, ◌%◌, ◌^◌, ◌<◌, true, nat_eq, nat_lt, refl}
use Rattle.std.proofs.Common.{sym, ap, ap₂, subst, ◌∙◌, mod-lt, mod-eq_of_lt, arith, pow_pos}
use Rattle.std.specs.Int.Bits.{bit_xor}
use Rattle.std.proofs.lemmas.Bool.{ltb-true, eqb-true}
use Rattle.std.proofs.lemmas.Nat.{xor_mod, xor_shr}
use Rattle.field.specs.Polynomials.{carryless, remainder, mul_mod}
use Rattle.field.specs.Linear.{Linear, Bilinear, exchange, xor_twice, bit_left, bit_right, after, agree, agree₂}
use Rattle.field.specs.Checks.{all, all_at}

-- halving drops the lowest bit of both
half_xor : Linear (λ a. a / 2)
half_xor a b = xor_shr a b 1

-- the lowest bit of both
low_bit_xor : Linear (λ a. a % 2)
low_bit_xor a b = xor_mod a b 1

-- each shifted copy of a keeps the exclusive or
carryless_left : (n b : ℕ) → Linear (λ a. carryless n a b)
unfolding carryless
carryless_left zero b a c = refl
carryless_left (suc n) b a c =
    ap₂ bit_xor (bit_right (b % 2) (omega arith) a c) (ap (λ (x : ℕ). carryless n x (b / 2)) (xor_twice a c) ∙ carryless_left n (b / 2) (2 * a) (2 * c))
    ∙ exchange (b % 2 * a) (b % 2 * c) (carryless n (2 * a) (b / 2)) (carryless n (2 * c) (b / 2))

-- each bit of b does
pub carryless_right : (n a : ℕ) → Linear (carryless n a)
unfolding carryless
carryless_right zero a b c = refl
carryless_right (suc n) a b c =
    ap₂ bit_xor
    (ap (λ (x : ℕ). x * a) (low_bit_xor b c) ∙ bit_left (b % 2) (c % 2) (omega arith) (omega arith) a)
    (ap (carryless n (2 * a)) (half_xor b c) ∙ carryless_right n (2 * a) (b / 2) (c / 2))
    ∙ exchange (b % 2 * a) (c % 2 * a) (carryless n (2 * a) (b / 2)) (carryless n (2 * a) (c / 2))

-- one step of the division: bit k of x takes away d
step : ℕ → ℕ → ℕ → ℕ
step k d x = bit_xor x (x / 2 ^ k % 2 * d)

-- the bit that is taken away keeps it
step_linear : (k d : ℕ) → Linear (step k d)
unfolding step
step_linear k d a b =
    ap (bit_xor (bit_xor a b))
    (ap (λ (x : ℕ). x % 2 * d) (xor_shr a b k)
    ∙ ap (λ (x : ℕ). x * d) (low_bit_xor (a / 2 ^ k) (b / 2 ^ k))
    ∙ bit_left (a / 2 ^ k % 2) (b / 2 ^ k % 2) (omega arith) (omega arith) d)
    ∙ exchange a b (a / 2 ^ k % 2 * d) (b / 2 ^ k % 2 * d)

-- and so do all steps, one after the other
remainder_linear : (w m n : ℕ) → Linear (remainder w m n)
unfolding remainder step
remainder_linear w m zero a b = refl
remainder_linear w m (suc n) a b =
    ap (remainder w m n) (step_linear (n + w) (m * 2 ^ n) a b)
    ∙ remainder_linear w m n (step (n + w) (m * 2 ^ n) a) (step (n + w) (m * 2 ^ n) b)

-- the product is such a map in each argument
pub mul_bilinear : (w m : ℕ) → Bilinear (mul_mod w m)
unfolding mul_mod
mul_bilinear w m = record {
  left = λ b. after (remainder w m w) (λ a. carryless w a b) (remainder_linear w m w) (carryless_left w b);
  right = λ a. after (remainder w m w) (carryless w a) (remainder_linear w m w) (carryless_right w a);
}

-- The tests at the powers of x.
pub record Basis (w m : ℕ) : Type 0 where
  pub below : all (λ i. all (λ j. nat_lt (mul_mod w m (2 ^ i) (2 ^ j)) (2 ^ w)) w) w ≡ true
  pub one : all (λ i. nat_eq (mul_mod w m 1 (2 ^ i)) (2 ^ i)) w ≡ true
  pub comm : all (λ i. all (λ j. nat_eq (mul_mod w m (2 ^ i) (2 ^ j)) (mul_mod w m (2 ^ j) (2 ^ i))) w) w ≡ true
  pub assoc : all (λ i. all (λ j. all (λ k. nat_eq (mul_mod w m (mul_mod w m (2 ^ i) (2 ^ j)) (2 ^ k)) (mul_mod w m (2 ^ i) (mul_mod w m (2 ^ j) (2 ^ k)))) w) w) w ≡ true

module _ (w m : ℕ) (basis : Basis w m) where
  -- cutting to w bits changes nothing on the powers of x, so it changes nothing
  mul_below : (a b : ℕ) → a < 2 ^ w → b < 2 ^ w → mul_mod w m a b < 2 ^ w
  mul_below a b p q =
      subst (λ (x : ℕ). x < 2 ^ w)
      (sym
      (agree₂ (mul_mod w m) (λ a b. mul_mod w m a b % 2 ^ w) (mul_bilinear w m)
      (record {
        left = λ b. after (λ x. x % 2 ^ w) (λ a. mul_mod w m a b) (λ x y. xor_mod x y w) ((mul_bilinear w m).left b);
        right = λ a. after (λ x. x % 2 ^ w) (mul_mod w m a) (λ x y. xor_mod x y w) ((mul_bilinear w m).right a);
      })
      w (λ i j p q. sym (mod-eq_of_lt (ltb-true _ _ (all_at _ w (all_at _ w basis.below i p) j q)))) a b p q))
      (mod-lt (mul_mod w m a b) (pow_pos w))

  -- both orders agree on the powers of x
  mul_comm : (a b : ℕ) → a < 2 ^ w → b < 2 ^ w → mul_mod w m a b ≡ mul_mod w m b a
  mul_comm =
      agree₂ (mul_mod w m) (λ a b. mul_mod w m b a) (mul_bilinear w m)
      (record { left = (mul_bilinear w m).right; right = (mul_bilinear w m).left })
      w (λ i j p q. eqb-true _ _ (all_at _ w (all_at _ w basis.comm i p) j q))

  -- one times a agrees with a on the powers of x
  one-mul : (a : ℕ) → a < 2 ^ w → mul_mod w m 1 a ≡ a
  one-mul = agree (mul_mod w m 1) (λ a. a) ((mul_bilinear w m).right 1) (λ a b. refl) w (λ i p. eqb-true _ _ (all_at _ w basis.one i p))

  -- both groupings agree on the powers of x, in each of three arguments
  mul_assoc : (a b c : ℕ) → a < 2 ^ w → b < 2 ^ w → c < 2 ^ w → mul_mod w m (mul_mod w m a b) c ≡ mul_mod w m a (mul_mod w m b c)
  mul_assoc a b c p q r =
      let mul : ℕ → ℕ → ℕ = mul_mod w m in
      let B : Bilinear mul = mul_bilinear w m in
      agree (λ x. mul (mul x b) c) (λ x. mul x (mul b c))
      (after (λ x. mul x c) (λ x. mul x b) (B.left c) (B.left b))
      (B.left (mul b c)) w
      (λ i l.
      agree₂ (λ y z. mul (mul (2 ^ i) y) z) (λ y z. mul (2 ^ i) (mul y z))
      (record {
        left = λ z. after (λ x. mul x z) (mul (2 ^ i)) (B.left z) (B.right (2 ^ i));
        right = λ y. B.right (mul (2 ^ i) y);
      })
      (record {
        left = λ z. after (mul (2 ^ i)) (λ y. mul y z) (B.right (2 ^ i)) (B.left z);
        right = λ y. after (mul (2 ^ i)) (mul y) (B.right (2 ^ i)) (B.right y);
      })
      w (λ j k s t. eqb-true _ _ (all_at _ w (all_at _ w (all_at _ w basis.assoc i l) j s) k t)) b c q r)
      a p

-- what the tests give
pub record Products (w m : ℕ) : Type 0 where
  pub below : (a b : ℕ) → a < 2 ^ w → b < 2 ^ w → mul_mod w m a b < 2 ^ w
  pub comm : (a b : ℕ) → a < 2 ^ w → b < 2 ^ w → mul_mod w m a b ≡ mul_mod w m b a
  pub one : (a : ℕ) → a < 2 ^ w → mul_mod w m 1 a ≡ a
  pub assoc : (a b c : ℕ) → a < 2 ^ w → b < 2 ^ w → c < 2 ^ w → mul_mod w m (mul_mod w m a b) c ≡ mul_mod w m a (mul_mod w m b c)

-- the four laws, from their tests
pub products : (w m : ℕ) → Basis w m → Products w m
products w m basis = record { below = mul_below w m basis; comm = mul_comm w m basis; one = one-mul w m basis; assoc = mul_assoc w m basis }
