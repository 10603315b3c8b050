-- Maps that keep the exclusive or, and how a few values of one fix it everywhere.
use Rattle.std.specs.Prelude.{◌≡◌, ℕ, zero, suc, ◌+◌, ◌-◌, ◌*◌, ◌^◌, ◌<◌, bit_xor}
use Rattle.std.proofs.Common.{sym, ap, ap₂, ◌∙◌, inl, inr, zero-mul, one-mul, mul_comm, add-zero, arith, pow_pos}
use Rattle.std.proofs.Math.Nat.{two-pow-succ}
use Rattle.std.proofs.lemmas.Bool.{cases_lt}
use Rattle.std.specs.Int.Bits.{xor_assoc, xor_self, xor_zero_r, xor_shifted}
use Rattle.std.proofs.lemmas.Nat.{xor_comm, xor_block}

-- ---- the exclusive or

-- the inner two of four change places
pub exchange : (a b c d : ℕ) → bit_xor (bit_xor a b) (bit_xor c d) ≡ bit_xor (bit_xor a c) (bit_xor b d)
exchange a b c d =
    xor_assoc a b (bit_xor c d)
    ∙ ap (bit_xor a) (sym (xor_assoc b c d) ∙ ap (λ (x : ℕ). bit_xor x d) (xor_comm b c) ∙ xor_assoc c b d)
    ∙ sym (xor_assoc a c (bit_xor b d))

-- an exclusive or taken twice
pub cancel : (a b : ℕ) → bit_xor (bit_xor a b) b ≡ a
cancel a b = xor_assoc a b b ∙ ap (bit_xor a) (xor_self b) ∙ xor_zero_r a

-- shifting keeps it
pub xor_shl : (k a b : ℕ) → bit_xor a b * 2 ^ k ≡ bit_xor (a * 2 ^ k) (b * 2 ^ k)
xor_shl k a b =
    sym (add-zero (bit_xor a b * 2 ^ k))
    ∙ sym (xor_block k a b 0 0 (pow_pos k) (pow_pos k))
    ∙ ap₂ bit_xor (add-zero (a * 2 ^ k)) (add-zero (b * 2 ^ k))

-- and so does doubling
pub xor_twice : (a b : ℕ) → 2 * bit_xor a b ≡ bit_xor (2 * a) (2 * b)
xor_twice a b = mul_comm 2 (bit_xor a b) ∙ xor_shl 1 a b ∙ ap₂ bit_xor (mul_comm a 2) (mul_comm b 2)

-- a bit times a number
pub bit_right : (r : ℕ) → r < 2 → (a b : ℕ) → r * bit_xor a b ≡ bit_xor (r * a) (r * b)
bit_right zero h a b = simp zero-mul
bit_right (suc zero) h a b = simp one-mul
bit_right (suc (suc r)) h a b = absurd (omega arith)

-- one bit, the exclusive or of two, times a number
pub bit_left : (r s : ℕ) → r < 2 → s < 2 → (a : ℕ) → bit_xor r s * a ≡ bit_xor (r * a) (s * a)
bit_left zero s h k a = simp zero-mul
bit_left (suc zero) zero h k a = simp (zero-mul, one-mul, xor_zero_r)
bit_left (suc zero) (suc zero) h k a = simp (zero-mul, one-mul, xor_self)
bit_left (suc zero) (suc (suc s)) h k a = absurd (omega arith)
bit_left (suc (suc r)) s h k a = absurd (omega arith)

-- ---- maps that keep it

-- f keeps the exclusive or
abbrev pub Linear : (ℕ → ℕ) → Type 0
Linear f = (a b : ℕ) → f (bit_xor a b) ≡ bit_xor (f a) (f b)

-- one such map after another
pub after : (f g : ℕ → ℕ) → Linear f → Linear g → Linear (λ a. f (g a))
after f g F G a b = ap f (G a b) ∙ F (g a) (g b)

-- 0 is the exclusive or of 0 and 0
pub at_zero : (f : ℕ → ℕ) → Linear f → f 0 ≡ 0
at_zero f F =
    sym (cancel (f 0) (f 0)) ∙ ap (λ (x : ℕ). bit_xor x (f 0)) (sym (F 0 0)) ∙ xor_self (f 0)

-- two that agree at the powers of two below 2 ^ n agree at each number below it
pub agree : (f g : ℕ → ℕ) → Linear f → Linear g → (n : ℕ) → ((k : ℕ) → k < n → f (2 ^ k) ≡ g (2 ^ k)) → (a : ℕ) → a < 2 ^ n → f a ≡ g a
agree f g F G zero h a below =
    let none : a ≡ 0 = omega arith in
    ap f none ∙ at_zero f F ∙ sym (at_zero g G) ∙ ap g (sym none)
agree f g F G (suc n) h a below =
    let rest = agree f g F G n (λ k l. h k (omega arith)) in
    elim (cases_lt a (2 ^ n)) [
      | inl l ↦ rest a l
      | inr l ↦
          let low : a - 2 ^ n < 2 ^ n = omega (arith, two-pow-succ n) in
          let sum : bit_xor (1 * 2 ^ n) (a - 2 ^ n) ≡ 1 * 2 ^ n + (a - 2 ^ n) = xor_shifted 1 n (a - 2 ^ n) low in
          let parts : a ≡ bit_xor (2 ^ n) (a - 2 ^ n) = sym (ap (λ (x : ℕ). bit_xor x (a - 2 ^ n)) (sym (one-mul (2 ^ n))) ∙ sum ∙ omega arith) in
          ap f parts ∙ F (2 ^ n) (a - 2 ^ n) ∙ ap₂ bit_xor (h n (omega arith)) (rest (a - 2 ^ n) low) ∙ sym (G (2 ^ n) (a - 2 ^ n)) ∙ sym (ap g parts)
    ]

-- the same in two arguments, and in three
pub record Bilinear (f : ℕ → ℕ → ℕ) : Type 0 where
  pub left : (b : ℕ) → Linear (λ a. f a b)
  pub right : (a : ℕ) → Linear (f a)

pub agree₂ : (f g : ℕ → ℕ → ℕ) → Bilinear f → Bilinear g → (n : ℕ) → ((i j : ℕ) → i < n → j < n → f (2 ^ i) (2 ^ j) ≡ g (2 ^ i) (2 ^ j)) → (a b : ℕ) → a < 2 ^ n → b < 2 ^ n → f a b ≡ g a b
agree₂ f g F G n h a b p q =
    agree (λ x. f x b) (λ x. g x b) (F.left b) (G.left b) n
    (λ i l. agree (f (2 ^ i)) (g (2 ^ i)) (F.right (2 ^ i)) (G.right (2 ^ i)) n (λ j. h i j l) b q)
    a p
