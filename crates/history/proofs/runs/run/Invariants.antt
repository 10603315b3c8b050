use Rattle.history.specs.Book.{enter}
use Rattle.history.specs.Laws.{ArrayLaw, ArrayChange}
use Rattle.history.proofs.Arrayruns.{ArraySoFar}
use Rattle.history.proofs.runs.run.Given as goal

abbrev pub invariant-loop-i : goal.invariant-loop-i
invariant-loop-i g l =
    let k = g.P.F.Field.arithmetic in
    ArraySoFar g.S.Shelf.table g.S.Shelf.sound k g.P.Plan.coefficients enter (λ x. ArrayLaw k x) (λ x. ArrayChange k x) l.fn.array l.calls l.array l.i l.answers
