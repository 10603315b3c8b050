use Rattle.std.proofs.Common.{◌≡◌, Some, Option, sym, subst, ap, rules}
use mathlib.Core.List.{is_set}
use mathlib.Core.Logic.{∥∥₁_map, ∥∥₁_elim}
use native.Mathlib.Nat.{ℕ_set}
use Rattle.archive.specs.declared.contents.Contents.{Contents}
use Rattle.linear.specs.Sets.{left, TellsJust}
use Rattle.archive.specs.Fields.{arithmetic_of}
use Rattle.archive.specs.Entries.{ToldOf}
use Rattle.archive.specs.Contents.{plan_of, kept, kept_in, AllCoded}
use Rattle.archive.specs.Stripes.{shown}
use Rattle.archive.proofs.Coding.{fresh_coded, lay_keeps, write_keeps, afresh_in}
use Rattle.archive.proofs.whole.Archive.carry_out.Goals as goal

pub invariant_of-self : goal.invariant_of-self
invariant_of-self c =
    let made = c.in_ok-described-in-Archive.ensures in
    record { coded = ∣ subst AllCoded (sym (ap Some made.1)) (fresh_coded c.in-Archive.description made.0) ∣₁ }

pub invariant_of-self-in-Lay : goal.invariant_of-self-in-Lay
invariant_of-self-in-Lay c =
    let is : c.args.self.now.contents ≡ Some c.in_ok-contents-in-Lay.contents.now = search rules in
    let coded = subst (λ (o : Option Contents). ∥ AllCoded (kept o) ∥₁) is c.args.self.now.coded in
    record { coded = ∥∥₁_map coded (lay_keeps (Some (kept_in c.in_ok-contents-in-Lay.contents.now)) (Some (kept_in c.lay.new.self)) c.in-Lay.place _ c.lay.result c.lay.ensures) }

pub invariant_of-self-in-Write : goal.invariant_of-self-in-Write
invariant_of-self-in-Write c =
    let is : c.args.self.now.contents ≡ Some c.in_ok-contents-in-Write.contents.now = search rules in
    let coded = subst (λ (o : Option Contents). ∥ AllCoded (kept o) ∥₁) is c.args.self.now.coded in
    record { coded = ∥∥₁_map coded (write_keeps (Some (kept_in c.in_ok-contents-in-Write.contents.now)) (Some (kept_in c.write.new.self)) c.in-Write.bay c.in-Write.place c.in-Write.word c.write.result c.write.ensures) }

pub returns-in_ok-rewrite-in-Write-clause-afresh : goal.returns-in_ok-rewrite-in-Write-clause-afresh
returns-in_ok-rewrite-in-Write-clause-afresh c =
    let is : c.args.self.now.contents ≡ Some c.in_ok-contents-in-Write.contents.now = search rules in
    let coded = subst (λ (o : Option Contents). ∥ AllCoded (kept o) ∥₁) is c.args.self.now.coded in
    ∥∥₁_elim coded (is_set ℕ_set _ _)
    (λ coded. afresh_in (Some (kept_in c.in_ok-contents-in-Write.contents.now)) c.in-Write.bay c.in-Write.place c.in-Write.word coded (shown c.in_ok-rewrite-in-Write.rewrite) c.in_ok-rewrite-in-Write.ensures.1)

pub returns-in_ok-loss-in-Lost-clause-told : goal.returns-in_ok-loss-in-Lost-clause-told
returns-in_ok-loss-in-Lost-clause-told c =
    let held = c.in_ok-contents-in-Lost.contents.now in
    let is : c.args.self.now.contents ≡ Some held = search rules in
    let loss = c.in_ok-loss-in-Lost.field-0 in
    let told = c.in_ok-loss-in-Lost.ensures in
    subst (λ (o : Option Contents). ToldOf (kept o) loss) (sym is)
    (told.2, subst (λ lost. TellsJust (arithmetic_of (kept_in held).field) (plan_of (kept_in held)) (left lost) loss.told) (sym told.1) told.3)
