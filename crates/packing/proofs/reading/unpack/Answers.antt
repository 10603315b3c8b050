use Rattle.std.proofs.Common.{◌≡◌, ℕ, ◌+◌, ◌-◌, List, [], ◌∷◌, ◌++◌, Some, arith, vec_items, rules, subst, sym, ◌∙◌}
use Rattle.std.specs.Option.{option_map}
use Rattle.packing.specs.Unpacked.{byte_at, bytes_from}
use Rattle.packing.proofs.Steps.{bytes_step}
use Rattle.packing.proofs.reading.unpack.Goals as goal

-- the byte that was read is the first of those that were left
pub loop-i-preserved : goal.loop-i-preserved
loop-i-preserved c =
    let p = c.args.packing in
    let ws = c.args.words.now in
    let i = c.loop-i.i in
    let n = 4 + c.in_ok-count.field-0 in
    let b = c.in_ok-ok_or.field-0 in
    let bs = vec_items c.loop-i.bytes in
    let left : n - i ≡ n - (i + 1) + 1 = omega arith in
    let read : byte_at p ws i ≡ Some b = search rules in
    let kept : vec_items c.push.new.self ≡ bs ++ b ∷ [] = search rules in
    subst (λ (ys : List ℕ). bytes_from p ws 4 c.in_ok-count.field-0 ≡ option_map (λ zs. ys ++ zs) (bytes_from p ws (i + 1) (n - (i + 1)))) (sym kept)
    (c.loop-i.invariant ∙ bytes_step p ws i (n - i) (n - (i + 1)) b bs left read)
