use Rattle.std.proofs.Common.{◌≡◌, ◌*◌, ◌%◌, ◌<◌, ◌≢◌}
use Rattle.field.proofs.modular.count_inverse.Given as goal

abbrev pub invariant-loop-rest : goal.invariant-loop-rest
invariant-loop-rest l = (l.rest < 65537) × (l.rest ≢ 0) × (l.found < 65537) × (l.a * l.found % 65537 ≡ l.rest % 65537)

abbrev pub decreases-loop-rest : goal.decreases-loop-rest
decreases-loop-rest l = l.rest
