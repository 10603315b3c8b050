use Rattle.std.proofs.Common.{sym}
use Rattle.history.specs.Book.{enter_service}
use Rattle.history.specs.Laws.{ServiceLaw, ServiceChange}
use Rattle.history.proofs.Servicewise.{service_step, service_plan}
use Rattle.history.proofs.Arrayruns.{array_more, array_all, array_new}
use Rattle.history.proofs.Chains.{ran_all}
use Rattle.history.proofs.runs.serve.Goals as goal

pub loop-i-preserved : goal.loop-i-preserved
loop-i-preserved g c =
    let table = g.S.Shelf.table in
    let sound = g.S.Shelf.sound in
    let k = g.P.F.Field.arithmetic in
    let l = g.met.P.F.Field.lawful in
    let coefficients = g.P.Plan.coefficients in
    let now = c.loop-i.array in
    let next = c.service_turn.new.array in
    let call = c.index-calls-i.result in
    let answer = c.service_turn.result in
    array_more table sound k coefficients enter_service (λ x. ServiceLaw k x) (λ x. ServiceChange k x) c.args.array.now c.args.calls.now now next c.loop-i.i c.loop-i.answers call answer
    c.loop-i-test.true (sym c.index-calls-i.is) c.loop-i.invariant
    (service_plan table sound k l coefficients now next call answer c.service_turn.ensures, service_step table sound k l coefficients now next call answer c.service_turn.ensures)

pub returns-clause-law : goal.returns-clause-law
returns-clause-law g c =
    let k = g.P.F.Field.arithmetic in
    ran_all c.args.calls.now c.args.answers.now c.loop-i.answers c.args.array.now c.loop-i.array _ c.if-calls-answers.false
    (array_all g.S.Shelf.table g.S.Shelf.sound k g.P.Plan.coefficients enter_service (λ x. ServiceLaw k x) (λ x. ServiceChange k x) c.args.array.now c.args.calls.now
    c.loop-i.array c.loop-i.i c.loop-i.answers c.loop-i-test.false c.loop-i.invariant)

pub returns-clause-new : goal.returns-clause-new
returns-clause-new g c done =
    let k = g.P.F.Field.arithmetic in
    array_new g.S.Shelf.table g.S.Shelf.sound k g.P.Plan.coefficients enter_service (λ x. ServiceLaw k x) (λ x. ServiceChange k x) c.args.array.now c.args.calls.now g.met.P.F.Field.lawful
    c.loop-i.array c.loop-i.i c.loop-i.answers c.loop-i-test.false c.loop-i.invariant
