use Rattle.std.proofs.Common.{◌+◌, subst, arith}
use Rattle.array.proofs.Moves.{Rewriting, next_check, all_rewritten}
use Rattle.array.proofs.moving.rewrite.Goals as goal

pub loop-i-preserved : goal.loop-i-preserved
loop-i-preserved g c =
    next_check g.S.Shelf.table g.S.Shelf.sound g.P.F.Field.arithmetic (g.P.Plan.coefficients c.args.plan.now) c.args.bay c.args.place c.args.old c.args.new c.args.below.now
    c.loop-i.i c.loop-i.below c.move_check.new.below (omega (arith, c.check_bays-i-end.ensures, c.loop-i-test.true)) c.loop-i.invariant c.move_check.ensures

pub returns : goal.returns
returns g c =
    let x = g.P.Plan.coefficients c.args.plan.now in
    all_rewritten g.S.Shelf.table g.S.Shelf.sound g.P.F.Field.arithmetic x c.args.bay c.args.place c.args.old c.args.new c.args.below.now c.loop-i.below
    (subst (λ n. Rewriting g.S.Shelf.table g.S.Shelf.sound g.P.F.Field.arithmetic x c.args.bay c.args.place c.args.old c.args.new (x.n + n) c.args.below.now c.loop-i.below)
    (omega (arith, c.check_bays-i-end.ensures, c.loop-i.auto.i-end, c.loop-i-test.false)) c.loop-i.invariant)
