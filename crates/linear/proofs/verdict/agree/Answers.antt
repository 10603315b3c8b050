use Rattle.std.proofs.Common.{◌%◌, ap, ◌∙◌, eqb}
use Rattle.std.specs.List.{list_all}
use Rattle.linear.proofs.Verdicts.{decides}
use Rattle.linear.proofs.verdict.agree.Goals as goal

pub returns : goal.returns
returns g c =
    let k = g.F.Field.arithmetic in
    decides k g.met.F.Field.lawful c.args.equations.items c.eliminate.new.remaining.items c.eliminate.result.items c.eliminate.ensures c.no_words.result
    (c.no_words.ensures ∙ ap (list_all (λ e. eqb (e.word % k.order) 0)) c.deref.ensures.0)
