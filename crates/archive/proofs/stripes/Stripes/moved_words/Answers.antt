use Rattle.std.proofs.Common.{◌≡◌, ℕ, suc, ◌%◌, List, [], ◌∷◌, map, refl, ap, ◌∙◌, add-one, rules}
use Rattle.std.specs.List.{enumerate_from}
use Rattle.std.proofs.lemmas.Result.{IfOk-weaker}
use Rattle.std.proofs.lemmas.Iterator.{YieldsList-from_slice, YieldsList-from_map, items_from_collect}
use Rattle.std.proofs.lemmas.Iterator.Consumers.{YieldsList-at, YieldsList-from_enumerate}
use Rattle.field.specs.Arithmetic.{Arithmetic}
use Rattle.plan.specs.Coefficients.{Coefficients}
use Rattle.plan.specs.Rows.{codes, moved, all_moved}
use Rattle.archive.proofs.stripes.Stripes.moved_words.Goals as goal

-- each check with its number, moved
moved_each : (k : Arithmetic) (x : Coefficients) (j old new i : ℕ) (cs : List ℕ) → map (λ (p : ℕ × ℕ). moved k x p.0 j (p.1 % k.order) old new) (enumerate_from i cs) ≡ all_moved k x i j old new (codes k cs)
moved_each k x j old new i [] = refl
moved_each k x j old new i (c ∷ cs) =
    ap (λ ys. moved k x i j (c % k.order) old new ∷ ys)
    (ap (λ n. map (λ (p : ℕ × ℕ). moved k x p.0 j (p.1 % k.order) old new) (enumerate_from n cs)) (add-one i) ∙ moved_each k x j old new (suc i) cs)

pub returns : goal.returns
returns g c =
    let k = g.P.F.Field.arithmetic in
    let x = g.P.Plan.coefficients c.args.self.now.plan in
    let old = c.args.old % k.order in
    let new = c.args.new % k.order in
    IfOk-weaker c.collect.result _ _ (λ w e. e ∙ moved_each k x c.args.bay old new 0 c.args.checks.now)
    (items_from_collect _ c.collect.ensures.ran
    (YieldsList-from_map _ (λ (p : ℕ × ℕ). moved k x p.0 c.args.bay (p.1 % k.order) old new)
    (YieldsList-at c.map.ensures.source (YieldsList-from_enumerate (YieldsList-at c.enumerate.ensures.source (YieldsList-from_slice c.args.checks.now cc)) (cc)))
    c.map.ensures.closure (λ p r q e. search rules)))
