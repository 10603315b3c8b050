-- Polynomials over the field of two elements: bit k of a number is the coefficient of x^k.
use Rattle.std.specs.Prelude.{◌≡◌, ℕ, zero, suc, ◌+◌, ◌*◌, ◌/◌, ◌%◌, ◌^◌, ◌<◌, bit_xor}
use Rattle.field.specs.Arithmetic.{Arithmetic}
use Rattle.field.specs.Inverse.{inverse_by}

-- The product of a and the n lowest coefficients of b: each that is 1 adds a, shifted to its place.
unfoldable pub carryless : ℕ → ℕ → ℕ → ℕ
carryless zero a b = 0
carryless (suc n) a b = bit_xor (b % 2 * a) (carryless n (2 * a) (b / 2))

-- The remainder of x, of at most w + n coefficients, by the polynomial m of degree w:
-- from the highest on, each coefficient that is 1 takes away m, shifted to its place.
unfoldable pub remainder : ℕ → ℕ → ℕ → ℕ → ℕ
remainder w m zero x = x
remainder w m (suc n) x = remainder w m n (bit_xor x (x / 2 ^ (n + w) % 2 * (m * 2 ^ n)))

-- The product of two codes of w bits, reduced by the polynomial m of degree w.
unfoldable pub mul_mod : ℕ → ℕ → ℕ → ℕ → ℕ
mul_mod w m a b = remainder w m w (carryless w a b)

-- The codes of w bits, with products reduced by m: sum and difference are exclusive or.
abbrev pub binary : ℕ → ℕ → Arithmetic
binary w m = record {
  order = 2 ^ w;
  add = bit_xor;
  sub = bit_xor;
  mul = mul_mod w m;
  inv = inverse_by (2 ^ w) (mul_mod w m);
}

-- x and r differ by a multiple of m, whose quotient has at most n coefficients.
abbrev pub Congruent : ℕ → ℕ → ℕ → ℕ → Type 0
Congruent n m x r = (k : ℕ) × ((k < 2 ^ n) × (x ≡ bit_xor r (carryless n m k)))

-- The product of two codes has at most w coefficients, and differs from their whole product by a multiple of m.
abbrev pub IsRemainder : ℕ → ℕ → Type 0
IsRemainder w m =
    (a b : ℕ) → a < 2 ^ w → b < 2 ^ w → (mul_mod w m a b < 2 ^ w) × Congruent w m (carryless w a b) (mul_mod w m a b)
