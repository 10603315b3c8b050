-- What a finite field means: its order and its operations on the codes below it, and the laws that they keep.
use Rattle.std.specs.Prelude.{◌≡◌, ℕ, zero, suc, ◌<◌, ◌≤◌, ◌≢◌, Some, None, Option}

pub record Arithmetic : Type 0 where
  pub order : ℕ
  pub add : ℕ → ℕ → ℕ
  pub sub : ℕ → ℕ → ℕ
  pub mul : ℕ → ℕ → ℕ
  pub inv : ℕ → ℕ

-- The laws, at the codes below the order: code 0 is zero and code 1 is one.
pub record Lawful (k : Arithmetic) : Type 0 where
  pub order_low : 16 ≤ k.order
  pub order_high : k.order ≤ 65537
  pub add_below : (a b : ℕ) → a < k.order → b < k.order → k.add a b < k.order
  pub sub_below : (a b : ℕ) → a < k.order → b < k.order → k.sub a b < k.order
  pub mul_below : (a b : ℕ) → a < k.order → b < k.order → k.mul a b < k.order
  pub inv_below : (a : ℕ) → a < k.order → a ≢ 0 → k.inv a < k.order
  pub add_assoc : (a b c : ℕ) → a < k.order → b < k.order → c < k.order → k.add (k.add a b) c ≡ k.add a (k.add b c)
  pub add_comm : (a b : ℕ) → a < k.order → b < k.order → k.add a b ≡ k.add b a
  pub zero-add : (a : ℕ) → a < k.order → k.add 0 a ≡ a
  pub mul_assoc : (a b c : ℕ) → a < k.order → b < k.order → c < k.order → k.mul (k.mul a b) c ≡ k.mul a (k.mul b c)
  pub mul_comm : (a b : ℕ) → a < k.order → b < k.order → k.mul a b ≡ k.mul b a
  pub one-mul : (a : ℕ) → a < k.order → k.mul 1 a ≡ a
  pub mul-add : (a b c : ℕ) → a < k.order → b < k.order → c < k.order → k.mul a (k.add b c) ≡ k.add (k.mul a b) (k.mul a c)
  pub sub-add : (a b : ℕ) → a < k.order → b < k.order → k.add (k.sub a b) b ≡ a
  pub mul-inv : (a : ℕ) → a < k.order → a ≢ 0 → k.mul a (k.inv a) ≡ 1

-- The inverse of a code below the order: none of zero alone.
abbrev pub inverse_of : Arithmetic → ℕ → Option ℕ
inverse_of k zero = None
inverse_of k (suc a) = Some (k.inv (suc a))
