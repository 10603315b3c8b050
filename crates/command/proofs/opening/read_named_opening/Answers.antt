use Rattle.std.proofs.Common.{arith, codes}
use Rattle.std.proofs.lemmas.Bool.Decides.{nat_tests}
use Rattle.command.proofs.Names.{differs}
use Rattle.command.proofs.opening.read_named_opening.Goals as goal

-- any other name differs from each that is known
pub returns-in_default : goal.returns-in_default
returns-in_default c =
    let s = c.args.name.now in
    let not_drill = differs s (codes "drill") (λ len bytes. grind (arith, nat_tests)) in
    let not_trays = differs s (codes "trays") (λ len bytes. grind (arith, nat_tests)) in
    let not_array = differs s (codes "array") (λ len bytes. grind (arith, nat_tests)) in
    let not_pile = differs s (codes "pile") (λ len bytes. grind (arith, nat_tests)) in
    simp (not_drill, not_trays, not_array, not_pile)
