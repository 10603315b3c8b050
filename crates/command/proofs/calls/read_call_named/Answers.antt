use Rattle.std.proofs.Common.{arith, codes, inr}
use Rattle.std.proofs.lemmas.Bool.Decides.{nat_tests}
use Rattle.command.proofs.Names.{differs}
use Rattle.command.proofs.calls.read_call_named.Goals as goal

-- any other name differs from each that is known
pub returns-in_default : goal.returns-in_default
returns-in_default c =
    let s = c.args.name.now in
    let not_stop = differs s (codes "stop") (λ len bytes. grind (arith, nat_tests)) in
    let not_read = differs s (codes "read") (λ len bytes. grind (arith, nat_tests)) in
    let not_write = differs s (codes "write") (λ len bytes. grind (arith, nat_tests)) in
    let not_lay = differs s (codes "lay") (λ len bytes. grind (arith, nat_tests)) in
    let not_patch = differs s (codes "patch") (λ len bytes. grind (arith, nat_tests)) in
    let not_exchange = differs s (codes "exchange") (λ len bytes. grind (arith, nat_tests)) in
    let not_mend = differs s (codes "mend") (λ len bytes. grind (arith, nat_tests)) in
    let not_sweep = differs s (codes "sweep") (λ len bytes. grind (arith, nat_tests)) in
    let not_below = differs s (codes "below") (λ len bytes. grind (arith, nat_tests)) in
    let not_fetch = differs s (codes "fetch") (λ len bytes. grind (arith, nat_tests)) in
    let not_survey = differs s (codes "survey") (λ len bytes. grind (arith, nat_tests)) in
    let not_end = differs s (codes "end") (λ len bytes. grind (arith, nat_tests)) in
    inr (simp (not_stop, not_read, not_write, not_lay, not_patch, not_exchange, not_mend, not_sweep, not_below, not_fetch, not_survey, not_end))
