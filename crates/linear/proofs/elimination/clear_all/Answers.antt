use Rattle.std.proofs.Common.{◌≡◌, ◌<◌, [], length, get_or, set, ap, ◌∙◌, arith}
use Rattle.std.proofs.lemmas.List.Edits.{map_over_more}
use Rattle.std.proofs.lemmas.List.{get_or_default}
use Rattle.linear.specs.Equations.{cleared}
use Rattle.linear.proofs.Equations.{equation}
use Rattle.linear.proofs.elimination.clear_all.Goals as goal

pub loop-equation-preserved : goal.loop-equation-preserved
loop-equation-preserved g c =
    let p = c.args.pivot in
    let xs = c.args.equations.now.items in
    let ys = c.loop-equation.equation-items in
    let i = c.loop-equation.equation-index in
    let long : length c.deref_mut-equation-items.result.now ≡ length xs = ap length c.deref_mut-equation-items.ensures.value in
    let j : i < length xs = omega (arith, long, c.loop-equation-test.true) in
    let k : i < length ys = omega (arith, c.loop-equation-test.true, c.loop-equation.auto.equation-items) in
    let none = equation [] 0 in
    let x = get_or ys i none in
    ap (set ys i) c.clear.ensures
    ∙ map_over_more (cleared g.F.Field.arithmetic p.column p.equation) xs ys i x j c.loop-equation.invariant (get_or_default ys i none x k)
