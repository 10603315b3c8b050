-- An equation by its row and its word, and the inverse of a code other than zero.
use Rattle.std.proofs.Common.{◌≡◌, ℕ, ◌≢◌, List, Some, sym, ◌∙◌}
use Rattle.std.proofs.lemmas.Option.{same_Some}
use Rattle.field.specs.Arithmetic.{Arithmetic, inverse_of}
use Rattle.field.specs.Laws.{some_elsewhere}
use Rattle.linear.specs.declared.equation.Equation.{Equation}

abbrev pub equation : List ℕ → ℕ → Equation
equation row word = record { row = row; word = word }

-- what the inverse call answers away from zero
pub inverse_known : (k : Arithmetic) (a b : ℕ) → a ≢ 0 → inverse_of k a ≡ Some b → b ≡ k.inv a
inverse_known k a b some e = sym (same_Some _ _ (some_elsewhere k a some ∙ e))
