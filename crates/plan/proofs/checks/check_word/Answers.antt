-- The fold goes over the columns and the words in step, and its closure adds one product.
use Rattle.std.proofs.Common.{rules, ◌∙◌, arith}
use Rattle.std.proofs.lemmas.Iterator.{YieldsList-from_slice, YieldsList-from_range, YieldsList-from_zip}
use Rattle.std.proofs.lemmas.Iterator.Consumers.{fold_from_yields_List}
use Rattle.plan.proofs.Dots.{added}
use Rattle.plan.proofs.Rows.{folded_is}
use Rattle.plan.proofs.checks.check_word.Goals as goal

pub returns : goal.returns
returns g c =
    let k = g.P.F.Field.arithmetic in
    let x = g.P.Plan.coefficients c.args.plan.now in
    let ws = c.args.words.now in
    fold_from_yields_List _ (added k (x.f c.args.i)) 0 c.fold.result c.fold.ensures.ran
    (YieldsList-from_zip (YieldsList-from_range 0 c.data_bays.result x.n c.zip.ensures.first (omega (arith, c.data_bays.ensures))) (YieldsList-from_slice ws c.zip.ensures.second.0))
    (λ sum p new f called. (search rules, search rules))
    ∙ folded_is k g.met.P.F.Field.lawful x (g.met.P.Plan.fitting c.args.plan.now) c.args.i ws
