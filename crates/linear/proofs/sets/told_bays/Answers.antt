use Rattle.std.proofs.Common.{rules, ◌≡◌, not, subst, arith}
use Rattle.shelf.specs.Calls.{bit}
use Rattle.linear.specs.Equations.{has_row}
use Rattle.linear.specs.Elimination.{Eliminated, reduced}
use Rattle.linear.specs.Sets.{bay_equation}
use Rattle.linear.proofs.Telling.{decided}
use Rattle.linear.proofs.sets.told_bays.Goals as goal

pub returns-clause-just : goal.returns-clause-just
returns-clause-just g c b i =
    let k = g.P.F.Field.arithmetic in
    let x = g.P.Plan.coefficients c.args.plan.now in
    let fit = g.met.P.Plan.fitting c.args.plan.now in
    let ps = c.eliminate-pivots.result.items in
    let n = c.data_bays.ensures in
    let m = c.check_bays.ensures in
    let few = fit.data_high in
    let fews = fit.checks_high in
    let each = c.bits_where.ensures.each b (omega arith) (omega arith) in
    let answer : bit c.bits_where.result b ≡ not (has_row k (reduced k ps (bay_equation x b))) = search rules in
    decided k g.met.P.F.Field.lawful x fit (bit c.args.bays) b c.eliminate-pivots.new.remaining.items ps (subst (λ es. Eliminated k es c.eliminate-pivots.new.remaining.items ps) c.rows_of-rows.ensures c.eliminate-pivots.ensures) (bit c.bits_where.result b) answer
