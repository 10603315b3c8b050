use Rattle.std.proofs.Common.{◌≡◌, ℕ, zero, suc, ◌∷◌, replicate, None, refl, ap, ◌∙◌, rules}
use Rattle.archive.specs.Stripes.{held_at}
use Rattle.archive.proofs.stripes.Stripes.new.Goals as goal

-- where nothing was laid, nothing is held
none_held : (n : ℕ) → held_at (replicate n None) ≡ replicate n None
none_held zero = refl
none_held (suc n) = ap (λ hs. None ∷ hs) (none_held n)

pub returns : goal.returns
returns g c =
    let none : c.in_ok-vec.field-0.items ≡ replicate c.args.places None = search rules in
    (refl, ap held_at none ∙ none_held c.args.places)
