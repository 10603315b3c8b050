use Rattle.std.proofs.Common.{◌≡◌, ℕ, ◌+◌, ◌<◌, true}
use Rattle.opening.specs.Words.{word_at, check_holds}
use Rattle.opening.proofs.deciding.all_checks_hold.Given as goal

abbrev pub invariant-loop-i : goal.invariant-loop-i
invariant-loop-i g l =
    let x = g.P.Plan.coefficients l.plan in
    (i : ℕ) → i < l.i → check_holds g.P.F.Field.arithmetic x i l.words (word_at l.cells (x.n + i)) ≡ true
