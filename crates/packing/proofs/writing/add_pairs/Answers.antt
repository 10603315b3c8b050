use Rattle.std.proofs.Common.{◌≡◌, ◌+◌, ◌*◌, ◌<◌, [], ◌∷◌, ◌++◌, length, drop, arith, vec_items, rules, ap, sym, ◌∙◌, append_assoc}
use Rattle.packing.specs.Packed.{pairs}
use Rattle.packing.proofs.Steps.{pairs_more}
use Rattle.packing.proofs.writing.add_pairs.Goals as goal

-- the word that was added is the first of those that were left
pub loop-i-preserved : goal.loop-i-preserved
loop-i-preserved c =
    let bytes = c.args.bytes.now in
    let i = c.loop-i.i in
    let words = vec_items c.loop-i.words in
    let w = c.pair_at.result in
    let within : 2 * i < length bytes = omega arith in
    let kept : vec_items c.push.new.self ≡ words ++ w ∷ [] = search rules in
    let more : pairs (drop (2 * i) bytes) ≡ w ∷ pairs (drop (2 * (i + 1)) bytes) = pairs_more bytes i within ∙ ap (λ x. x ∷ pairs (drop (2 * (i + 1)) bytes)) (sym c.pair_at.ensures) in
    rw kept (c.loop-i.invariant ∙ (ap (λ ys. words ++ ys) more ∙ sym (append_assoc words (w ∷ []) (pairs (drop (2 * (i + 1)) bytes)))))
