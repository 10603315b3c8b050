use Rattle.std.proofs.Common.{◌≡◌, ◌+◌, map, subst, sym, ap, ◌∙◌, None, arith}
use Rattle.plan.specs.Bounds.{most_data}
use Rattle.linear.specs.Equations.{cleared}
use Rattle.linear.specs.Elimination.{TakesPivot}
use Rattle.linear.proofs.Steps.{Progress, passed, pivoted, eliminated}
use Rattle.linear.proofs.elimination.eliminate.Goals as goal
use Rattle.linear.proofs.elimination.eliminate.Goals.{in-Some, in_default}

pub loop-column-preserved : goal.loop-column-preserved
loop-column-preserved g c =
    let k = g.F.Field.arithmetic in
    let l = g.met.F.Field.lawful in
    let es = c.args.remaining.now.items in
    let j = c.loop-column.column in
    let old = c.loop-column.remaining.items in
    let new = c.take_pivot.new.remaining.items in
    let ps = c.loop-column.pivots.items in
    elim c.match-take_pivot.branch [
      | in-Some w ↦
          let p = w.in-Some.pivot in
          subst (λ rest. Progress k es (j + 1) rest c.match-take_pivot.pivots.items) (sym (ap (λ rest. rest.items) w.remaining-is ∙ w.clear_all.ensures))
          (subst (λ ps. Progress k es (j + 1) (map (cleared k p.column p.equation) new) ps) (sym (ap (λ ps. ps.items) w.pivots-is ∙ w.push.ensures.items))
          (pivoted k l es old new ps p j c.loop-column-test.true c.loop-column.invariant (subst (TakesPivot k j old new) w.in-Some.is c.take_pivot.ensures)))
      | in_default w ↦
          let none : TakesPivot k j old new None = subst (TakesPivot k j old new) w.in_default.is c.take_pivot.ensures in
          subst (λ rest. Progress k es (j + 1) rest c.match-take_pivot.pivots.items) (sym (ap (λ rest. rest.items) w.remaining-is ∙ none.1))
          (subst (Progress k es (j + 1) old) (sym (ap (λ ps. ps.items) w.pivots-is))
          (passed k l es old ps j c.loop-column.invariant none.0))
    ]

pub returns : goal.returns
returns g c =
    let k = g.F.Field.arithmetic in
    let rest = c.loop-column.remaining.items in
    let ps = c.loop-column.pivots.items in
    let all : c.loop-column.column ≡ most_data = omega (arith, c.loop-column.auto.column-end, c.loop-column-test.false) in
    eliminated k g.met.F.Field.lawful c.args.remaining.now.items rest ps (subst (λ j. Progress k c.args.remaining.now.items j rest ps) all c.loop-column.invariant)
