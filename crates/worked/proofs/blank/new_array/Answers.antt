use Rattle.std.proofs.Common.{◌≤◌, ap, ◌∙◌, arith}
use Rattle.shelf.specs.Bounds.{most_limit}
use Rattle.shelf.specs.Table.{AllBlank}
use Rattle.trays.specs.Words.{tray_table}
use Rattle.layers.specs.Pairs.{pair_table}
use Rattle.array.proofs.Meaning.{blank_in_order, new_blank}
use Rattle.worked.proofs.Blanks.{three_blank}
use Rattle.worked.proofs.blank.new_array.Goals as goal

-- The three trays were made blank, under a limit that a tray may have, so an array over them is in order, and blank.
pub returns-clause-new : goal.returns-clause-new
returns-clause-new g c =
    let k = g.P.F.Field.arithmetic in
    let law = g.met.P.F.Field.lawful in
    let below = c.assemble.result.below in
    let low : c.size-limit.result ≤ most_limit = let size = c.size-limit.ensures in let high = law.order_high in omega arith in
    let rest = ap (λ b. b.second) c.assemble.ensures.0 ∙ c.new-2.ensures.1 in
    let all : AllBlank (pair_table tray_table (pair_table tray_table tray_table) below) =
    three_blank below c.blank_tray-first.result c.blank_tray-second.result c.blank_tray-third.result
    (ap (λ b. b.first) c.assemble.ensures.0 ∙ c.new-2.ensures.0) (ap (λ b. b.first) rest ∙ c.new.ensures.0) (ap (λ b. b.second) rest ∙ c.new.ensures.1)
    (c.blank_tray-first.ensures.blank low) (c.blank_tray-second.ensures.blank low) (c.blank_tray-third.ensures.blank low) in
    let x = g.P.Plan.coefficients c.assemble.result.plan in
    (((tt, (tt, tt)), blank_in_order k law x _ all), new_blank k law x _ all)
