use Rattle.std.proofs.Common.{Ok, refl, subst}
use Rattle.linear.specs.Sets.{left, TellsJust}
use Rattle.shelf.specs.Refusals.{Tests}
use Rattle.archive.specs.Stripes.{loss_refusal}
use Rattle.archive.proofs.stripes.Stripes.loss.Goals as goal

pub returns : goal.returns
returns g c =
    let x = g.P.Plan.coefficients c.args.self.now.plan in (
      subst (λ lost. Tests (loss_refusal x lost) (Ok tt)) c.deref.ensures.value c.in_ok-check_lost.ensures,
      refl,
      c.data_bays.ensures,
      subst (λ lost. TellsJust g.P.F.Field.arithmetic x (left lost) c.told_without-told.result) c.deref-2.ensures.value c.told_without-told.ensures.just,
    )
