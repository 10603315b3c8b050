-- The laws of the numbers modulo a prime, over the prime.
use Rattle.std.specs.Prelude.{◌≡◌, ℕ, zero, suc, ◌+◌, ◌-◌, ◌*◌, ◌/◌, ◌%◌, ◌<◌, ◌≤◌, ◌≢◌}
use Rattle.std.proofs.Common.{sym, ap, ◌∙◌, inl, inr, add_assoc, add_comm, zero-add, mul_assoc, mul_comm, mul-add, one-mul, mod-lt, mod-eq_of_lt, div-le_self, arith}
use Rattle.std.proofs.Math.Nat.{mod-add-mod, add-mod-mod, add-mod, add-mod_right, mul-add-mod_self_right, div-add-mod}
use Rattle.std.proofs.lemmas.Bool.{cases_eq}
use Rattle.std.proofs.lemmas.Nat.{mul-mod_first, mul-mod_second}
use Rattle.field.specs.Arithmetic.{Lawful}
use Rattle.field.specs.Modular.{times_mod, modular}
use Rattle.field.specs.Partners as inverse

-- one division: a times what is short of q by its quotient leaves the remainder
pub divided : (q a : ℕ) → a * (q - q / a) % q ≡ q % a % q
divided q a =
    let whole : a * (q / a) + q % a ≡ q = div-add-mod q a in
    let fits : q - q / a + q / a ≡ q = omega (arith, div-le_self q a) in
    let parts : a * q ≡ a * (q - q / a) + a * (q / a) = ap (λ (x : ℕ). a * x) (sym fits) ∙ mul-add a (q - q / a) (q / a) in
    let sum : a * (q - q / a) + q ≡ a * q + q % a = omega arith in
    sym (add-mod_right (a * (q - q / a)) q) ∙ ap (λ (x : ℕ). x % q) sum ∙ mul-add-mod_self_right a q (q % a)

-- so where b times f leaves a, b times f's next leaves q % a
pub step : (q a b f : ℕ) → b * f % q ≡ a % q → b * (f * (q - q / a) % q) % q ≡ q % a % q
step q a b f e =
    mul-mod_second b (f * (q - q / a)) q
    ∙ ap (λ (x : ℕ). x % q) (sym (mul_assoc b f (q - q / a)))
    ∙ sym (mul-mod_first (b * f) (q - q / a) q)
    ∙ ap (λ (x : ℕ). x * (q - q / a) % q) e
    ∙ mul-mod_first a (q - q / a) q
    ∙ divided q a

-- no number between divides q
abbrev pub Prime : ℕ → Type 0
Prime q = (d : ℕ) → 1 < d → d < q → q % d ≢ 0

-- a partner of a: a code whose product with a is 1
abbrev pub Partner : ℕ → ℕ → Type 0
Partner q a = (b : ℕ) × ((b < q) × (a * b % q ≡ 1))

-- a partner of q % a gives one of a, by one division
lifted : (q a : ℕ) → 0 < q → Partner q (q % a) → Partner q a
lifted q a pos r = (
  (q - q / a) * r.0 % q,
  (
    mod-lt ((q - q / a) * r.0) pos,
    mul-mod_second a ((q - q / a) * r.0) q
        ∙ ap (λ (x : ℕ). x % q) (sym (mul_assoc a (q - q / a) r.0))
        ∙ sym (mul-mod_first (a * (q - q / a)) r.0 q)
        ∙ ap (λ (x : ℕ). x * r.0 % q) (divided q a)
        ∙ mul-mod_first (q % a) r.0 q
        ∙ r.1.1,
  ),
)

module _ (q : ℕ) (many : 1 < q) (prime : Prime q) where
  -- by induction: each remainder is smaller, and 1 is its own partner
  partner_to : (n a : ℕ) → a ≤ n → a < q → a ≢ 0 → Partner q a
  partner_to zero a l p h = absurd (h (omega arith))
  partner_to (suc n) a l p h = elim (cases_eq a 1) [
    | inl e ↦ (1, (many, ap (λ (x : ℕ). x * 1 % q) e ∙ mod-eq_of_lt many))
    | inr e ↦
        let small : q % a < a = mod-lt q (omega arith) in
        lifted q a (omega arith) (partner_to n (q % a) (omega arith) (omega arith) (prime a (omega arith) p))
  ]

  -- so each code but 0 has a partner
  pub partner : (a : ℕ) → a < q → a ≢ 0 → Partner q a
  partner a = partner_to a a (omega arith)

  -- reduce once at the end, either way
  times_assoc : (a b c : ℕ) → a * b % q * c % q ≡ a * (b * c % q) % q
  times_assoc a b c = mul-mod_first (a * b) c q ∙ ap (λ (x : ℕ). x % q) (mul_assoc a b c) ∙ sym (mul-mod_second a (b * c) q)

  -- products of numbers commute
  times_comm : (a b : ℕ) → a * b % q ≡ b * a % q
  times_comm a b = ap (λ (x : ℕ). x % q) (mul_comm a b)

  -- a code is its own remainder
  one_times : (a : ℕ) → a < q → 1 * a % q ≡ a
  one_times a l = ap (λ (x : ℕ). x % q) (one-mul a) ∙ mod-eq_of_lt l

  -- the laws of a field, from those of whole numbers
  pub laws : 16 ≤ q → q ≤ 65537 → Lawful (modular q)
  laws low high = record {
    order_low = low;
    order_high = high;
    add_below = λ a b _ _. mod-lt (a + b) (omega arith);
    sub_below = λ a b _ _. mod-lt (a + (q - b)) (omega arith);
    mul_below = λ a b _ _. mod-lt (a * b) (omega arith);
    inv_below = λ a l h. let r = partner a l h in inverse.inverse_below q (times_mod q) a r.0 r.1.0 r.1.1;
    add_assoc = λ a b c _ _ _. mod-add-mod (a + b) q c ∙ ap (λ (x : ℕ). x % q) (add_assoc a b c) ∙ sym (add-mod-mod a (b + c) q);
    add_comm = λ a b _ _. ap (λ (x : ℕ). x % q) (add_comm a b);
    zero-add = λ a l. ap (λ (x : ℕ). x % q) (zero-add a) ∙ mod-eq_of_lt l;
    mul_assoc = λ a b c _ _ _. times_assoc a b c;
    mul_comm = λ a b _ _. times_comm a b;
    one-mul = one_times;
    mul-add = λ a b c _ _ _. mul-mod_second a (b + c) q ∙ ap (λ (x : ℕ). x % q) (mul-add a b c) ∙ add-mod (a * b) (a * c) q;
    sub-add = λ a b l k.
        let sum : a + (q - b) + b ≡ a + q = omega arith in
        mod-add-mod (a + (q - b)) q b ∙ ap (λ (x : ℕ). x % q) sum ∙ add-mod_right a q ∙ mod-eq_of_lt l;
    mul-inv = λ a l h. let r = partner a l h in inverse.inverse_right q (times_mod q) a r.0 r.1.0 r.1.1;
  }
