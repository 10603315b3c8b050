use Rattle.std.proofs.Common.{◌≡◌, ◌<◌, ◌≤◌, length, ⊎_elim, arith, sym, ap, ◌∙◌, min, rules}
use Rattle.std.proofs.lemmas.Bool.{cases_lt}
use Rattle.std.proofs.lemmas.Option.{slice_get_past}
use Rattle.tables.specs.Columns.{sums_of, column_at, counted}
use Rattle.tables.proofs.Counting.{adds}
use Rattle.tables.proofs.columns.Totals.add.Goals as goal

-- each column that has a cell has counted it, and no other has changed
pub returns : goal.returns
returns c =
    let row = c.args.cells.now in
    let before = sums_of c.args.self.now in
    let after = sums_of c.loop-j.self in
    let count : c.min-count.result ≡ min (length before) (length row) = search rules in
    let ends : c.min-count.result ≤ c.loop-j.j = omega arith in
    adds row before after c.loop-j.invariant.long
    (λ j h.
    ⊎_elim
    (λ (l : j < c.loop-j.j). c.loop-j.invariant.before j l)
    (λ (g : c.loop-j.j ≤ j). c.loop-j.invariant.after j g ∙ ap (counted (column_at before j)) (sym (slice_get_past row j (omega arith))))
    (cases_lt j c.loop-j.j))
