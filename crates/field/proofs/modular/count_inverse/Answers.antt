use Rattle.std.proofs.Common.{◌≡◌, ℕ, ◌%◌, sym, ap, ◌∙◌, arith}
use Rattle.field.specs.Modular.{modular}
use Rattle.field.specs.LawfulFields.{count}
use Rattle.field.specs.Laws.{inverse_is}
use Rattle.field.proofs.modular.count_inverse.Goals as goal

pub returns : goal.returns
returns c =
    let last : c.loop-rest.rest ≡ 1 = omega arith in
    sym
    (inverse_is (modular 65537) count c.args.a c.loop-rest.found (omega arith) (omega arith) (omega arith)
    (c.loop-rest.invariant.3 ∙ ap (λ (x : ℕ). x % 65537) last))
