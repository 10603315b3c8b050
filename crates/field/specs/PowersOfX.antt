-- The powers of x, and the tables of them and of their logarithms, over the width: each nonzero code is a power.
use Rattle.std.specs.Prelude.{◌≡◌, ℕ, zero, suc, ◌+◌, ◌-◌, ◌*◌, ◌^◌, ◌<◌, Bool, true, false, ◌&&◌, ◌≢◌, List, [], ◌∷◌, ◌==◌, nat_lt, length, slice_index, refl}
use Rattle.std.proofs.Common.{sym, ap, ◌∙◌, arith, add-zero, zero-add, add-suc, suc-add}
use Rattle.std.proofs.lemmas.Bool.{and_parts, ltb-true, eqb-true}
use Rattle.field.specs.Polynomials.{mul_mod}
use Rattle.field.specs.Powers.{power_of_x}
use Rattle.field.specs.Products.{Products}
use Rattle.field.specs.Checks.{all, all_at}

-- ---- the table of the first powers, and of the logarithms

-- n entries, from x on, each 2 times the one before
unfoldable pub powers_from : ℕ → ℕ → ℕ → ℕ → List ℕ
powers_from w m zero x = []
powers_from w m (suc n) x = x ∷ powers_from w m n (mul_mod w m 2 x)

-- the first place of x in the list, counted from i, and 0 where it has none
unfoldable pub place : ℕ → ℕ → List ℕ → ℕ
place x i [] = 0
place x i (y ∷ ys) = elim (x == y) [ true ↦ i | false ↦ place x (suc i) ys ]

-- the places of n numbers, from x on
unfoldable pub places_from : List ℕ → ℕ → ℕ → List ℕ
places_from exp zero x = []
places_from exp (suc n) x = place x 0 exp ∷ places_from exp n (suc x)

-- the powers of x, once round and again up to the last sum of two logarithms
abbrev pub powers_table : ℕ → ℕ → List ℕ
powers_table w m = powers_from w m (2 * (2 ^ w - 1) - 1) 1

-- the logarithm of each code, and 0 for 0
abbrev pub logs_table : ℕ → ℕ → List ℕ
logs_table w m = places_from (powers_table w m) (2 ^ w) 0

-- at each code that is not 0, the logarithm is below the order less 1, and the power there is the code
abbrev pub logged : ℕ → List ℕ → List ℕ → ℕ → Bool
logged top exp log zero = true
logged top exp log (suc a) = nat_lt (slice_index log (suc a)) top && slice_index exp (slice_index log (suc a)) == suc a

-- the same of the codes below n
abbrev pub all_logged : ℕ → List ℕ → List ℕ → ℕ → Bool
all_logged top exp log n = all (logged top exp log) n

-- a list of n powers has length n, by induction
length-powers_from : (w m n x : ℕ) → length (powers_from w m n x) ≡ n
unfolding powers_from
length-powers_from w m zero x = refl
length-powers_from w m (suc n) x = ap suc (length-powers_from w m n (mul_mod w m 2 x))

-- and so has one of n places
length-places_from : (exp : List ℕ) (n x : ℕ) → length (places_from exp n x) ≡ n
unfolding places_from
length-places_from exp zero x = refl
length-places_from exp (suc n) x = ap suc (length-places_from exp n (suc x))

-- so the table of powers has an entry for each sum of two logarithms
pub powers_length : (w m : ℕ) → length (powers_table w m) ≡ 2 * (2 ^ w - 1) - 1
powers_length w m = length-powers_from w m (2 * (2 ^ w - 1) - 1) 1

-- and that of logarithms one for each code
pub logs_length : (w m : ℕ) → length (logs_table w m) ≡ 2 ^ w
logs_length w m = length-places_from (powers_table w m) (2 ^ w) 0

-- the tests of both tables
pub record Tables (w m : ℕ) : Type 0 where
  pub logs : all_logged (2 ^ w - 1) (powers_table w m) (logs_table w m) (2 ^ w) ≡ true
  pub turn : slice_index (powers_table w m) (2 ^ w - 1) ≡ 1

-- entry k of a list that starts at power i is power i + k
powers_at : (w m n i k : ℕ) → k < n → slice_index (powers_from w m n (power_of_x w m i)) k ≡ power_of_x w m (i + k)
unfolding powers_from power_of_x
powers_at w m zero i k h = absurd (omega arith)
powers_at w m (suc n) i zero h = ap (power_of_x w m) (sym (add-zero i))
powers_at w m (suc n) i (suc k) h = powers_at w m n (suc i) k (omega arith) ∙ ap (power_of_x w m) (suc-add i k ∙ sym (add-suc i k))

-- so the table has the powers
pub power_at : (w m k : ℕ) → k < 2 * (2 ^ w - 1) - 1 → slice_index (powers_table w m) k ≡ power_of_x w m k
unfolding power_of_x
power_at w m k h = powers_at w m (2 * (2 ^ w - 1) - 1) 0 k h ∙ ap (power_of_x w m) (zero-add k)

module _ (w m : ℕ) (tables : Tables w m) where
  -- both tests of a code that is not 0, read off the table
  tested : (a : ℕ) → suc a < 2 ^ w → (slice_index (logs_table w m) (suc a) < 2 ^ w - 1) × (slice_index (powers_table w m) (slice_index (logs_table w m) (suc a)) ≡ suc a)
  tested a l =
      let both = and_parts _ _ (all_at (logged (2 ^ w - 1) (powers_table w m) (logs_table w m)) (2 ^ w) tables.logs (suc a) l) in
      (ltb-true _ _ both.0, eqb-true _ _ both.1)

  -- the first
  pub log_below : (a : ℕ) → a < 2 ^ w → a ≢ 0 → slice_index (logs_table w m) a < 2 ^ w - 1
  log_below zero l h = absurd (h refl)
  log_below (suc a) l h = (tested a l).0

  -- by the second the power at the logarithm is the code
  pub log_power : (a : ℕ) → a < 2 ^ w → a ≢ 0 → power_of_x w m (slice_index (logs_table w m) a) ≡ a
  log_power zero l h = absurd (h refl)
  log_power (suc a) l h =
      let t = tested a l in
      sym (power_at w m (slice_index (logs_table w m) (suc a)) (omega arith)) ∙ t.1

-- ---- sums of exponents

module _ (w m : ℕ) (mul : Products w m) (wide : 2 < 2 ^ w) where
  -- one is a code, and a product of codes is
  pub power_below : (i : ℕ) → power_of_x w m i < 2 ^ w
  unfolding power_of_x
  power_below zero = omega arith
  power_below (suc i) = mul.below 2 (power_of_x w m i) wide (power_below i)

  -- exponents add, by associativity
  pub power-add : (i j : ℕ) → mul_mod w m (power_of_x w m i) (power_of_x w m j) ≡ power_of_x w m (i + j)
  unfolding power_of_x
  power-add zero j = mul.one (power_of_x w m j) (power_below j) ∙ ap (power_of_x w m) (sym (zero-add j))
  power-add (suc i) j =
      mul.assoc 2 (power_of_x w m i) (power_of_x w m j) wide (power_below i) (power_below j)
      ∙ ap (mul_mod w m 2) (power-add i j)
      ∙ ap (power_of_x w m) (sym (suc-add i j))
