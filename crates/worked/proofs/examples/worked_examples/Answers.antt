use Rattle.std.proofs.Common.{refl}
use Rattle.field.specs.Polynomials.{carryless, remainder, mul_mod}
use Rattle.plan.specs.Powers.{power, powers}
use Rattle.plan.specs.Rows.{entry, row, dot}
use Rattle.worked.specs.Examples.{examples, arithmetic_of}
use Rattle.worked.proofs.Possible.{possible}
use Rattle.worked.proofs.Passing.{passes, all_right}
use Rattle.worked.proofs.examples.worked_examples.Goals as goal

pub returns : goal.returns
unfolding mul_mod carryless remainder power entry row dot passes
returns c = record { hold = all_right examples refl; possible = λ k n m words left h. possible (arithmetic_of k) (powers (arithmetic_of k) n m) words left h }
