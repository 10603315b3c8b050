use Rattle.std.proofs.Common.{◌≡◌, ◌<◌, ◌*◌, map, length, get_or, sym, ap, ◌∙◌, subst, arith}
use Rattle.std.proofs.lemmas.Bool.Decides.{nat_tests}
use Rattle.shelf.specs.Table.{Shaped}
use Rattle.rack.specs.Racks.{racked}
use Rattle.rack.proofs.Rows.{shaped_fit, shaped_unfit, shaped_none}
use Rattle.rack.proofs.rack.RackShelf.shape.Goals as goal

pub returns-in_default : goal.returns-in_default
returns-in_default g c =
    shaped_none g.S.Shelf.table c.args.self.now.shelves.items (let n = ap length c.deref.ensures.value in omega (arith, n, c.in_default.ensures.item.3))

pub returns-then-go_together : goal.returns-then-go_together
returns-then-go_together g c =
    let xs = c.args.self.now.shelves.items in
    let first = c.in-Some.first.now in
    let n = c.shape-shape.result in
    let some : 0 < length xs = (let m = ap length c.deref.ensures.value in let e = c.in-Some.ensures.item.0 in grind (arith, nat_tests)) in
    let is : first ≡ get_or xs 0 first = c.in-Some.ensures.item.1 ∙ ap (λ ys. get_or ys 0 first) c.deref.ensures.value in
    let done = shaped_fit g.S.Shelf.table xs first n some is c.shape-shape.ensures (sym c.go_together.ensures.together ∙ c.if-go_together.true) (c.go_together.ensures.fitting c.if-go_together.true) in
    let long : c.len.result ≡ length xs = omega (arith, c.len.ensures, c.args.self.now.shelves.ok.0) in
    subst (λ m. Shaped (racked (map g.S.Shelf.table xs)) (m * n.0, n.1, n.2)) (sym long) done

pub returns-else-go_together : goal.returns-else-go_together
returns-else-go_together g c =
    let xs = c.args.self.now.shelves.items in
    let first = c.in-Some.first.now in
    let some : 0 < length xs = (let m = ap length c.deref.ensures.value in let e = c.in-Some.ensures.item.0 in grind (arith, nat_tests)) in
    let is : first ≡ get_or xs 0 first = c.in-Some.ensures.item.1 ∙ ap (λ ys. get_or ys 0 first) c.deref.ensures.value in
    shaped_unfit g.S.Shelf.table xs first c.shape-shape.result some is c.shape-shape.ensures (sym c.go_together.ensures.together ∙ c.if-go_together.false)
