-- The remainder by a polynomial differs from what was divided by a multiple of it.
use Rattle.std.proofs.Common.{◌≡◌, ℕ, zero, suc, ◌+◌, ◌*◌, ◌/◌, ◌%◌, ◌^◌, ◌<◌, sym, ap, ◌∙◌, ap₂, mul_assoc, mul_comm, zero-mul, mul-one, arith, pow_pos}
use Rattle.std.proofs.Math.Nat.{two-pow-succ, pow-succ'}
use Rattle.std.proofs.Math.Arith.{digits_lt}
use Rattle.std.specs.Int.Bits.{bit_xor, xor_assoc, xor_zero_r, xor_shifted, shifted_half, shifted_even}
use Rattle.std.proofs.lemmas.Nat.{xor_comm}
use Rattle.field.specs.Polynomials.{carryless, remainder, mul_mod, Congruent, IsRemainder}
use Rattle.field.specs.Linear.{cancel}
use Rattle.field.specs.Products.{Products, carryless_right}

-- a coefficient past the last of b adds nothing
short : (n a b : ℕ) → b < 2 ^ n → carryless (suc n) a b ≡ carryless n a b
unfolding carryless
short zero a b l =
    let none : b ≡ 0 = omega arith in
    ap (λ (x : ℕ). bit_xor (x % 2 * a) 0) none ∙ ap (λ (x : ℕ). bit_xor x 0) (zero-mul a)
short (suc n) a b l =
    ap (bit_xor (b % 2 * a)) (short n (2 * a) (b / 2) (omega (arith, two-pow-succ n)))

-- the one coefficient n of b
single : (n a t : ℕ) → t < 2 → carryless (suc n) a (t * 2 ^ n) ≡ t * (a * 2 ^ n)
unfolding carryless
single zero a t l =
    let low : t * 1 % 2 ≡ t = omega arith in
    xor_zero_r (t * 1 % 2 * a) ∙ ap (λ (x : ℕ). x * a) low ∙ ap (λ (x : ℕ). t * x) (sym (mul-one a))
single (suc n) a t l =
    ap₂ bit_xor (ap (λ (x : ℕ). x * a) (shifted_even t n) ∙ zero-mul a) (ap (carryless (suc n) (2 * a)) (shifted_half t n) ∙ single n (2 * a) t l)
    ∙ ap (λ (x : ℕ). t * x) (ap (λ (x : ℕ). x * 2 ^ n) (mul_comm 2 a) ∙ mul_assoc a 2 (2 ^ n) ∙ ap (λ (x : ℕ). a * x) (sym (pow-succ' 2 n)))

-- the coefficient n of b and those below it, apart
longer : (n a t k : ℕ) → t < 2 → k < 2 ^ n → carryless (suc n) a (t * 2 ^ n + k) ≡ bit_xor (carryless n a k) (t * (a * 2 ^ n))
longer n a t k l h =
    ap (carryless (suc n) a) (sym (xor_shifted t n k h))
    ∙ carryless_right (suc n) a (t * 2 ^ n) k
    ∙ ap₂ bit_xor (single n a t l) (short n a k h)
    ∙ xor_comm (t * (a * 2 ^ n)) (carryless n a k)

-- one step of the division
stepped : (n m x r t : ℕ) → t < 2 → Congruent n m (bit_xor x (t * (m * 2 ^ n))) r → Congruent (suc n) m x r
stepped n m x r t l c =
    let d = t * (m * 2 ^ n) in (
      t * 2 ^ n + c.0,
      (
        omega (arith, digits_lt l c.1.0, two-pow-succ n),
        sym (cancel x d)
            ∙ ap (λ (y : ℕ). bit_xor y d) c.1.1
            ∙ xor_assoc r (carryless n m c.0) d
            ∙ ap (bit_xor r) (sym (longer n m t c.0 l c.1.0)),
      ),
    )

-- by induction on the steps: each takes away a multiple
pub divides : (w m n x : ℕ) → Congruent n m x (remainder w m n x)
unfolding remainder carryless
divides w m zero x = (0, (pow_pos 0, sym (xor_zero_r x)))
divides w m (suc n) x =
    let t = x / 2 ^ (n + w) % 2 in
    stepped n m x (remainder w m (suc n) x) t (omega arith) (divides w m n (bit_xor x (t * (m * 2 ^ n))))

-- the product is reduced from the whole product, and below the order by its tests
pub is_remainder : (w m : ℕ) → Products w m → IsRemainder w m
unfolding mul_mod
is_remainder w m mul a b p q = (mul.below a b p q, divides w m w (carryless w a b))
