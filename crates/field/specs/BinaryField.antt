-- A field of binary polynomials, over the width: its laws from its tables, and its product and inverse by powers.
use Rattle.std.specs.Prelude.{◌≡◌, ℕ, ◌+◌, ◌-◌, ◌^◌, ◌<◌, ◌≤◌, ◌≢◌, slice_index, refl}
use Rattle.std.proofs.Common.{sym, ap, ap₂, subst, ◌∙◌, arith}
use Rattle.std.specs.Int.Bits.{xor_assoc}
use Rattle.std.proofs.lemmas.Nat.{xor_comm, xor_lt}
use Rattle.field.specs.Polynomials.{mul_mod, binary}
use Rattle.field.specs.Powers.{power_of_x, Cyclic}
use Rattle.field.specs.Linear.{cancel, at_zero}
use Rattle.field.specs.Products.{Products, mul_bilinear}
use Rattle.field.specs.Laws as laws
use Rattle.field.specs.Partners as inverse
use Rattle.field.specs.PowersOfX.{Tables, logs_table, power_below, power-add, power_at, log_below, log_power}

-- a map that keeps the exclusive or gives 0 at 0
pub zero_left : (w m b : ℕ) → mul_mod w m 0 b ≡ 0
zero_left w m b = at_zero (λ a. mul_mod w m a b) ((mul_bilinear w m).left b)

-- in the other argument too
pub zero_right : (w m a : ℕ) → mul_mod w m a 0 ≡ 0
zero_right w m a = at_zero (mul_mod w m a) ((mul_bilinear w m).right a)

module _ (w m : ℕ) (mul : Products w m) (wide : 2 < 2 ^ w) (turn : power_of_x w m (2 ^ w - 1) ≡ 1) where
  -- a power of x times the power that completes the turn is one
  pub partner : (i a : ℕ) → i < 2 ^ w - 1 → power_of_x w m i ≡ a → mul_mod w m a (power_of_x w m (2 ^ w - 1 - i)) ≡ 1
  partner i a l p =
      let sum : i + (2 ^ w - 1 - i) ≡ 2 ^ w - 1 = omega arith in
      ap (λ (x : ℕ). mul_mod w m x (power_of_x w m (2 ^ w - 1 - i))) (sym p)
      ∙ power-add w m mul wide i (2 ^ w - 1 - i) ∙ ap (power_of_x w m) sum ∙ turn

module _ (w m : ℕ) (mul : Products w m) (low : 16 ≤ 2 ^ w) (high : 2 ^ w ≤ 65537) (tables : Tables w m) where
  wide : 2 < 2 ^ w
  wide = omega arith

  -- the powers come round: an entry of the table
  turn : power_of_x w m (2 ^ w - 1) ≡ 1
  turn = sym (power_at w m (2 ^ w - 1) (omega arith)) ∙ tables.turn

  -- so each code but 0 has a partner
  other : (a : ℕ) → a < 2 ^ w → a ≢ 0 → mul_mod w m a (power_of_x w m (2 ^ w - 1 - slice_index (logs_table w m) a)) ≡ 1
  other a l h = partner w m mul wide turn (slice_index (logs_table w m) a) a (log_below w m tables a l h) (log_power w m tables a l h)

  -- sums are exclusive or, and inverses are the partners
  pub cyclic : Cyclic w m
  cyclic = record {
    laws = record {
      order_low = low;
      order_high = high;
      add_below = xor_lt w;
      sub_below = xor_lt w;
      mul_below = mul.below;
      inv_below = λ a l h. inverse.inverse_below (2 ^ w) (mul_mod w m) a _ (power_below w m mul wide _) (other a l h);
      add_assoc = λ a b c _ _ _. xor_assoc a b c;
      add_comm = λ a b _ _. xor_comm a b;
      zero-add = λ a _. refl;
      mul_assoc = mul.assoc;
      mul_comm = mul.comm;
      one-mul = mul.one;
      mul-add = λ a b c _ _ _. (mul_bilinear w m).right a b c;
      sub-add = λ a b _ _. cancel a b;
      mul-inv = λ a l h. inverse.inverse_right (2 ^ w) (mul_mod w m) a _ (power_below w m mul wide _) (other a l h);
    };
    turn = turn;
  }

-- The product and the inverse of codes that are powers, from the laws alone.
module _ (w m : ℕ) (ready : Cyclic w m) where
  -- the laws of the products alone
  of_laws : Products w m
  of_laws = record { below = ready.laws.mul_below; comm = ready.laws.mul_comm; one = ready.laws.one-mul; assoc = ready.laws.mul_assoc }

  -- x itself is a code
  wide_enough : 2 < 2 ^ w
  wide_enough = omega (arith, ready.laws.order_low)

  -- exponents add
  pub product_is : (i j a b : ℕ) → power_of_x w m i ≡ a → power_of_x w m j ≡ b → mul_mod w m a b ≡ power_of_x w m (i + j)
  product_is i j a b p q = ap₂ (mul_mod w m) (sym p) (sym q) ∙ power-add w m of_laws wide_enough i j

  -- and the inverse completes the turn
  pub inverse_is : (i a : ℕ) → i < 2 ^ w - 1 → a ≢ 0 → power_of_x w m i ≡ a → (binary w m).inv a ≡ power_of_x w m (2 ^ w - 1 - i)
  inverse_is i a l h p =
      laws.inverse_is (binary w m) ready.laws a (power_of_x w m (2 ^ w - 1 - i))
      (subst (λ (x : ℕ). x < 2 ^ w) p (power_below w m of_laws wide_enough i)) h
      (power_below w m of_laws wide_enough (2 ^ w - 1 - i)) (partner w m of_laws wide_enough ready.turn i a l p)
