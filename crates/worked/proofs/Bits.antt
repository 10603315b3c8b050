-- A number of n bits is known by them.
use Rattle.std.proofs.Common.{◌≡◌, ℕ, zero, suc, ◌+◌, ◌/◌, ◌%◌, ◌^◌, ◌<◌, eqb, sym, ap, ◌∙◌, inl, inr, arith}
use Rattle.std.proofs.lemmas.Bool.{cases_Bool, eqb-true, eqb-false}
use Rattle.std.proofs.lemmas.Nat.{shr-shr}
use Rattle.std.proofs.Math.Nat.{pow-suc}
use Rattle.shelf.specs.Calls.{bit}

-- bit b of half a number is the bit above b of the number
half_bit : (a b : ℕ) → bit (a / 2) b ≡ bit a (suc b)
half_bit a b = ap (λ n. eqb (n % 2) 1) (shr-shr a 1 b) ∙ (let e : 1 + b ≡ suc b = omega arith in ap (bit a) e)

-- the lowest bits are the same
lowest : (a b : ℕ) → bit a 0 ≡ bit b 0 → a % 2 ≡ b % 2
lowest a b same = elim (cases_Bool (bit a 0)) [
  | inl on ↦ let e = eqb-true (a / 2 ^ 0 % 2) 1 on in let f = eqb-true (b / 2 ^ 0 % 2) 1 (sym same ∙ on) in omega arith
  | inr off ↦ let e = eqb-false (a / 2 ^ 0 % 2) 1 off in let f = eqb-false (b / 2 ^ 0 % 2) 1 (sym same ∙ off) in omega arith
]

-- by induction over the bits, from the lowest
pub same_bits : (n a b : ℕ) → a < 2 ^ n → b < 2 ^ n → ((j : ℕ) → j < n → bit a j ≡ bit b j) → a ≡ b
same_bits zero a b ha hb same = omega arith
same_bits (suc n) a b ha hb same =
    let double = pow-suc 2 n in
    let low = lowest a b (same 0 (omega arith)) in
    let high = same_bits n (a / 2) (b / 2) (omega arith) (omega arith) (λ j few. half_bit a j ∙ same (suc j) (omega arith) ∙ sym (half_bit b j)) in
    omega arith
