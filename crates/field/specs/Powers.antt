-- The powers of x modulo a polynomial, and what makes the codes of w bits a field in which they are every code but 0.
use Rattle.std.specs.Prelude.{◌≡◌, ℕ, zero, suc, ◌-◌, ◌^◌}
use Rattle.field.specs.Arithmetic.{Lawful}
use Rattle.field.specs.Polynomials.{mul_mod, binary}

-- x to the i modulo the polynomial m of degree w
unfoldable pub power_of_x : ℕ → ℕ → ℕ → ℕ
power_of_x w m zero = 1
power_of_x w m (suc i) = mul_mod w m 2 (power_of_x w m i)

-- the laws, and that the powers come round after as many steps as there are codes but 0
pub record Cyclic (w m : ℕ) : Type 0 where
  pub laws : Lawful (binary w m)
  pub turn : power_of_x w m (2 ^ w - 1) ≡ 1
