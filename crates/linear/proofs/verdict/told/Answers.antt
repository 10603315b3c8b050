use Rattle.std.proofs.Common.{◌%◌, sym, ap, ◌∙◌}
use Rattle.linear.specs.Equations.{has_row}
use Rattle.linear.proofs.Verdicts.{tells, opens}
use Rattle.linear.proofs.verdict.told.Goals as goal

pub returns-then-has_row : goal.returns-then-has_row
returns-then-has_row g c =
    let k = g.F.Field.arithmetic in
    opens k g.met.F.Field.lawful c.args.equations.items c.eliminate.new.remaining.items c.eliminate.result.items c.args.target c.eliminate.ensures
    (sym (ap (has_row k) c.reduce-rest.ensures) ∙ sym c.has_row.ensures ∙ c.if-has_row.true)

pub returns-else-has_row : goal.returns-else-has_row
returns-else-has_row g c =
    let k = g.F.Field.arithmetic in
    tells k g.met.F.Field.lawful c.args.equations.items c.eliminate.new.remaining.items c.eliminate.result.items c.args.target c.eliminate.ensures
    (sym (ap (has_row k) c.reduce-rest.ensures) ∙ sym c.has_row.ensures ∙ c.if-has_row.false)
    c.difference.result
    (c.difference.ensures ∙ ap (λ e. k.sub (0 % k.order) (e.word % k.order)) c.reduce-rest.ensures)
