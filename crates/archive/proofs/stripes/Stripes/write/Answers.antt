use Rattle.std.proofs.Common.{◌≡◌, ◌<◌, length, Some, vec_items, ap, ◌∙◌, rules}
use Rattle.archive.specs.Stripes.{held, held_at, comparing}
use Rattle.archive.proofs.Calls.{held_length, held_here, held-set, write_done}
use Rattle.archive.proofs.stripes.Stripes.write.Goals as goal

pub returns-clause-writes : goal.returns-clause-writes
returns-clause-writes g c =
    let s = c.args.self.now in
    let k = g.P.F.Field.arithmetic in
    let x = g.P.Plan.coefficients s.plan in
    let stripe = c.in_ok-stripe.stripe.now in
    let is : c.index.result.now ≡ Some stripe = search rules in
    let next = c.in_ok-next.ensures in
    let room : c.args.place < length (vec_items s.places) = search rules in
    write_done k x (held_at (vec_items s.places)) c.shape.result (c.shape.ensures ∙ held_length x.n k.order (vec_items s.places))
    c.args.bay c.args.place c.args.word (held stripe) _ c.in_ok-rewrite.rewrite c.in_ok-check_word.ensures
    (held_here (vec_items s.places) c.args.place _ (Some stripe) room c.index.ensures is)
    (held-set (vec_items s.places) c.args.place c.in_ok-next.next _ next)
    (c.in_ok-rewrite.ensures ∙ ap (comparing k x c.args.bay (held stripe)) next)
