use Rattle.std.proofs.Common.{◌+◌, ◌∷◌, [], ◌++◌, sym, ap, ◌∙◌, subst}
use Rattle.opening.specs.Words.{EquationsOf}
use Rattle.opening.proofs.Equations.{equation_none, equation_more}
use Rattle.opening.proofs.deciding.equations_of.Goals as goal
use Rattle.opening.proofs.deciding.equations_of.Goals.{in-Some, in_default}

pub loop-bay-preserved : goal.loop-bay-preserved
loop-bay-preserved g c =
    let k = g.P.F.Field.arithmetic in
    let x = g.P.Plan.coefficients c.args.plan.now in
    let cells = c.args.cells.now in
    let n = c.loop-bay.bay in
    let es = c.loop-bay.equations.items in
    elim c.match-cell.branch [
      | in-Some w ↦
          subst (EquationsOf k x cells (n + 1)) (sym (ap (λ es. es.items) w.equations-is ∙ w.push.ensures.items ∙ ap (λ row. es ++ record { row = row; word = w.in-Some.word } ∷ []) w.row.ensures))
          (equation_more k x cells n es c.loop-bay.invariant w.in-Some.word w.in-Some.is)
      | in_default w ↦
          subst (EquationsOf k x cells (n + 1)) (sym (ap (λ es. es.items) w.equations-is))
          (equation_none k x cells n es c.loop-bay.invariant w.in_default.is)
    ]
