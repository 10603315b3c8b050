use Rattle.history.specs.Book.{enter_service}
use Rattle.history.specs.Laws.{ServiceLaw, ServiceChange}
use Rattle.history.proofs.Arrayruns.{ArraySoFar}
use Rattle.history.proofs.runs.serve.Given as goal

abbrev pub invariant-loop-i : goal.invariant-loop-i
invariant-loop-i g l =
    let k = g.P.F.Field.arithmetic in
    ArraySoFar g.S.Shelf.table g.S.Shelf.sound k g.P.Plan.coefficients enter_service (λ x. ServiceLaw k x) (λ x. ServiceChange k x) l.fn.array l.calls l.array l.i l.answers
