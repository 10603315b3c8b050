-- The inverse of a code, by its meaning: the code whose product with it is 1.
use Rattle.std.specs.Prelude.{ℕ, zero, suc, Bool, cond, nat_eq}

-- The largest number below n that passes the test, and 0 where there is none.
unfoldable pub pick : (ℕ → Bool) → ℕ → ℕ
pick f zero = 0
pick f (suc n) = cond (f n) n (pick f n)

-- The code below q whose product with a is 1.
unfoldable pub inverse_by : ℕ → (ℕ → ℕ → ℕ) → ℕ → ℕ
inverse_by q mul a = pick (λ b. nat_eq (mul a b) 1) q
