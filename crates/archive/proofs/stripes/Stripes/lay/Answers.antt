use Rattle.std.proofs.Common.{◌≡◌, vec_items, ◌∙◌}
use Rattle.std.specs.List.{each_same}
use Rattle.archive.specs.Stripes.{held, held_at}
use Rattle.archive.proofs.Held.{both-held}
use Rattle.archive.proofs.Calls.{held_length, held-set, lay_done}
use Rattle.archive.proofs.stripes.Stripes.lay.Goals as goal

pub returns-clause-lays : goal.returns-clause-lays
returns-clause-lays g c =
    let s = c.args.self.now in
    let k = g.P.F.Field.arithmetic in
    let x = g.P.Plan.coefficients s.plan in
    let made = c.in_ok-stripe.ensures in
    let same : held c.in_ok-answer.answer ≡ held c.in_ok-stripe.stripe =
    both-held (each_same _ _ c.in_ok-answer.ensures.cases.0.0) (each_same _ _ c.in_ok-answer.ensures.cases.1.0) in
    lay_done k x (held_at (vec_items s.places)) c.shape.result (c.shape.ensures ∙ held_length x.n k.order (vec_items s.places))
    c.args.place c.args.words.now _ c.in_ok-answer.answer c.in_ok-check_lay.ensures
    (held-set (vec_items s.places) c.args.place c.in_ok-stripe.stripe _ made) (same ∙ made)
