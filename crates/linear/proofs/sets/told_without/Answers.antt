use Rattle.std.proofs.Common.{rules, ◌≡◌, ℕ, ◌+◌, ◌<◌, arith}
use Rattle.shelf.specs.Calls.{bit}
use Rattle.linear.specs.Sets.{left}
use Rattle.linear.proofs.Telling.{just_same}
use Rattle.linear.proofs.sets.told_without.Goals as goal

pub returns-clause-just : goal.returns-clause-just
returns-clause-just g c =
    let x = g.P.Plan.coefficients c.args.plan.now in
    let fit = g.met.P.Plan.fitting c.args.plan.now in
    let n = c.data_bays.ensures in
    let m = c.check_bays.ensures in
    let few = fit.data_high in
    let fews = fit.checks_high in
    let those : (b : ℕ) → b < x.n + x.m → bit c.bits_where-left.result b ≡ left c.args.lost.now b =
    λ b i. let each = c.bits_where-left.ensures.each b (omega arith) (omega arith) in search rules in
    just_same g.P.F.Field.arithmetic x (bit c.bits_where-left.result) (left c.args.lost.now) those c.told_bays.result c.told_bays.ensures.just
