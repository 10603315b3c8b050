use Rattle.std.proofs.Common.{◌≡◌, ℕ, ◌%◌, List, length, set, vec_items, sym, ap, ◌∙◌, ap₂, arith}
use Rattle.std.specs.List.{each_same}
use Rattle.std.proofs.lemmas.List.{set_past}
use Rattle.plan.specs.Rows.{codes, all_moved}
use Rattle.archive.proofs.Held.{both-held}
use Rattle.archive.proofs.stripes.Stripes.rewritten.Goals as goal
use Rattle.archive.proofs.stripes.Stripes.rewritten.Goals.{then-bay-len, else-bay-len}

pub returns : goal.returns
returns g c =
    let k = g.P.F.Field.arithmetic in
    let x = g.P.Plan.coefficients c.args.self.now.plan in
    let ws = vec_items c.args.stripe.now.words in
    let bay = c.args.bay in
    let word = c.args.word in
    let copy : vec_items c.in_ok-words.words ≡ ws = each_same _ _ c.in_ok-words.ensures.cases.0 in
    let words : vec_items c.if-bay-len.words ≡ set ws bay word = elim c.if-bay-len.branch [
      | then-bay-len w ↦ ap vec_items w.words-is ∙ ap (λ xs. set xs bay word) copy
      | else-bay-len w ↦
          ap vec_items w.words-is ∙ copy ∙ sym (set_past ws bay word (omega (arith, w.if-bay-len.false, c.len.ensures, c.in_ok-words.words.ok.0, ap length copy)))
    ] in
    both-held words
    (c.in_ok-checks.ensures
    ∙ ap₂ (λ (o : ℕ) (cs : List ℕ). all_moved k x 0 bay (o % k.order) (word % k.order) (codes k cs)) c.word.ensures c.deref.ensures.value)
