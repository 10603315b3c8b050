use Rattle.std.proofs.Common.{◌++◌, ◌∷◌, [], length, sym, ap, ap₂, ◌∙◌, arith}
use Rattle.shelf.specs.Calls.{bit}
use Rattle.linear.proofs.Telling.{rows_in, rows_out, rows_few}
use Rattle.linear.proofs.sets.rows_of.Goals as goal
use Rattle.linear.proofs.sets.rows_of.Goals.{then-bit, else-bit}

pub push-requires : goal.push-requires
push-requires g c =
    let x = g.P.Plan.coefficients c.args.plan.now in
    let fits = g.met.P.Plan.fitting c.args.plan.now in
    let few = rows_few x (bit c.args.bays) c.loop-bay.bay in
    let is = ap length c.loop-bay.invariant in
    let n = c.data_bays.ensures in
    let m = c.check_bays.ensures in
    let a = fits.data_high in
    let b = fits.checks_high in
    let i = c.loop-bay-test.true in
    (omega arith, omega arith)

pub loop-bay-preserved : goal.loop-bay-preserved
loop-bay-preserved g c =
    let x = g.P.Plan.coefficients c.args.plan.now in
    let set = bit c.args.bays in
    let n = c.loop-bay.bay in
    elim c.if-bit.branch [
      | then-bit w ↦
          ap (λ rows. rows.items) w.rows-is ∙ w.push.ensures.items
          ∙ ap₂ (λ rows e. rows ++ e ∷ []) c.loop-bay.invariant w.bay_equation.ensures
          ∙ sym (rows_in x set n (sym c.bit.ensures ∙ w.if-bit.true))
      | else-bit w ↦ ap (λ rows. rows.items) w.rows-is ∙ c.loop-bay.invariant ∙ sym (rows_out x set n (sym c.bit.ensures ∙ w.if-bit.false))
    ]
