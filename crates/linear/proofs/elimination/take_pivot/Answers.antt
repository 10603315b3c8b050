use Rattle.std.proofs.Common.{◌≢◌, ap, sym, refl, ◌∙◌, subst, Some}
use Rattle.std.proofs.lemmas.List.{get_or_default}
use Rattle.linear.specs.Equations.{entry, times}
use Rattle.linear.specs.Elimination.{FirstWith}
use Rattle.linear.proofs.Equations.{inverse_known}
use Rattle.linear.proofs.elimination.take_pivot.Goals as goal

pub returns : goal.returns
returns g c =
    let k = g.F.Field.arithmetic in
    let j = c.args.column in
    let old = c.args.remaining.now.items in
    let n = c.in_ok-first.first in
    let e = c.remove-equation.result in
    let first : FirstWith k j old (Some n) =
    subst (FirstWith k j old) c.in_ok-first.was (subst (λ es. FirstWith k j es c.first_with.result) c.deref.ensures.0 c.first_with.ensures) in
    let at = sym c.remove-equation.ensures.value in
    let some : entry k e j ≢ 0 = λ z. first.1 e (ap (λ e. entry k e j) at ∙ z) in (
      n,
      e,
      first.0,
      (at, λ d. get_or_default old n d e first.0 ∙ at),
      some,
      first.2,
      c.remove-equation.ensures.items,
      refl,
      c.times.ensures ∙ ap (λ b. times k b e) (inverse_known k (entry k e j) c.unwrap-inverse.result some (sym c.inverse.ensures ∙ c.unwrap-inverse.ensures)),
    )
