-- Whole numbers modulo q.
use Rattle.std.specs.Prelude.{ℕ, ◌+◌, ◌-◌, ◌*◌, ◌%◌}
use Rattle.field.specs.Arithmetic.{Arithmetic}
use Rattle.field.specs.Inverse.{inverse_by}

abbrev pub times_mod : ℕ → ℕ → ℕ → ℕ
times_mod q a b = a * b % q

-- The difference adds what b is short of q.
abbrev pub modular : ℕ → Arithmetic
modular q = record {
  order = q;
  add = λ a b. (a + b) % q;
  sub = λ a b. (a + (q - b)) % q;
  mul = times_mod q;
  inv = inverse_by q (times_mod q);
}
