use Rattle.std.proofs.Common.{arith, codes, inr}
use Rattle.std.proofs.lemmas.Bool.Decides.{nat_tests}
use Rattle.command.proofs.Names.{differs}
use Rattle.command.proofs.read.read_named.Goals as goal

-- any other name differs from each that is known
pub returns-in_default : goal.returns-in_default
returns-in_default c =
    let s = c.args.name.now in
    let not_archive = differs s (codes "archive") (λ len bytes. grind (arith, nat_tests)) in
    let not_lay = differs s (codes "lay") (λ len bytes. grind (arith, nat_tests)) in
    let not_write = differs s (codes "write") (λ len bytes. grind (arith, nat_tests)) in
    let not_lost = differs s (codes "lost") (λ len bytes. grind (arith, nat_tests)) in
    inr (simp (not_archive, not_lay, not_write, not_lost))
