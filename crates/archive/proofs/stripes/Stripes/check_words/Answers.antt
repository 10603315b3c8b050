use Rattle.std.proofs.Common.{refl, arith, rules}
use Rattle.std.proofs.lemmas.Iterator.{YieldsList-from_range, YieldsList-from_map, items_from_collect}
use Rattle.std.proofs.lemmas.Iterator.Consumers.{YieldsList-at}
use Rattle.plan.specs.Rows.{codes, check_on, checks_on}
use Rattle.archive.proofs.stripes.Stripes.check_words.Goals as goal

pub returns : goal.returns
unfolding checks_on
returns g c =
    let k = g.P.F.Field.arithmetic in
    let x = g.P.Plan.coefficients c.args.self.now.plan in
    let v = codes k c.args.words.now in
    items_from_collect _ c.collect.ensures.ran
    (YieldsList-from_map _ (λ i. check_on k x i v)
    (YieldsList-at c.map.ensures.source (YieldsList-from_range 0 c.check_bays.result x.m refl (omega (arith, c.check_bays.ensures))))
    c.map.ensures.closure (λ i r q h. search rules))
