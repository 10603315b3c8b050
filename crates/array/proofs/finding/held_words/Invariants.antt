use Rattle.array.specs.Finding.{Gathers}
use Rattle.array.proofs.finding.held_words.Given as goal

abbrev pub invariant-loop-bay : goal.invariant-loop-bay
invariant-loop-bay g l =
    Gathers g.S.Shelf.table g.S.Shelf.sound (g.P.Plan.coefficients l.plan) l.place l.without l.bay l.initial.below l.below l.equations.items
