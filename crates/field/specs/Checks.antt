-- A test of all numbers below a bound, which antt computes.
use Rattle.std.specs.Prelude.{◌≡◌, ℕ, zero, suc, ◌<◌, Bool, true, ◌&&◌, refl}
use Rattle.std.proofs.lemmas.Bool.Decides.{Decides-below_and}

-- f passes at each number below n
abbrev pub all : (ℕ → Bool) → ℕ → Bool
all f zero = true
all f (suc n) = f n && all f n

-- a test that passes below n passes at each number there: it is such a recursion as std knows
pub all_at : (f : ℕ → Bool) (n : ℕ) → all f n ≡ true → (k : ℕ) → k < n → f k ≡ true
all_at f n = (Decides-below_and f (λ k. f k ≡ true) (all f) (λ k. (λ e. e, λ e. e)) refl (λ _. refl) n).0
