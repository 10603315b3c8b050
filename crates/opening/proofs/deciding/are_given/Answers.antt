use Rattle.std.proofs.Common.{sym, ◌∙◌, subst}
use Rattle.opening.specs.Words.{DataWords}
use Rattle.opening.proofs.Giving.{beyond, by_checks, by_equations}
use Rattle.opening.proofs.deciding.are_given.Goals as goal

pub returns-then-not-all_codes : goal.returns-then-not-all_codes
returns-then-not-all_codes g c =
    beyond g.P.F.Field.arithmetic g.met.P.F.Field.lawful (g.P.Plan.coefficients c.args.plan.now) (g.met.P.Plan.fitting c.args.plan.now) c.args.cells.now c.requires
    (sym c.all_codes.ensures ∙ c.if-not-all_codes.true)

pub returns-in-Some : goal.returns-in-Some
returns-in-Some g c =
    let x = g.P.Plan.coefficients c.args.plan.now in
    let cells = c.args.cells.now in
    by_checks g.P.F.Field.arithmetic g.met.P.F.Field.lawful x (g.met.P.Plan.fitting c.args.plan.now) cells c.requires
    (sym c.all_codes.ensures ∙ c.if-not-all_codes.false) c.deref.result.now
    (subst (DataWords x.n cells) (sym c.deref.ensures.0) (subst (λ n. DataWords n cells c.in-Some.words.items) c.data_bays.ensures c.in-Some.ensures))
    c.all_checks_hold.result c.all_checks_hold.ensures

pub returns-in-None : goal.returns-in-None
returns-in-None g c =
    by_equations g.P.F.Field.arithmetic g.met.P.F.Field.lawful (g.P.Plan.coefficients c.args.plan.now) (g.met.P.Plan.fitting c.args.plan.now) c.args.cells.now c.requires
    (sym c.all_codes.ensures ∙ c.if-not-all_codes.false) c.equations_of.result.items c.equations_of.ensures c.agree.result c.agree.ensures
