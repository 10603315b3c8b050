use Rattle.std.proofs.Common.{◌≡◌, ◌++◌, ◌-◌, Ok, map, vec_items}
use Rattle.description.specs.Cuts.{lines_left}
use Rattle.description.specs.Outcome.{following}
use Rattle.description.specs.Reading.{rows_in}
use Rattle.description.proofs.reading.read_rows.Given as goal

-- the rows read so far stand in front of those of the lines left
abbrev pub invariant-loop : goal.invariant-loop
invariant-loop l =
    rows_in l.data_bays l.check_bays (lines_left l.fn.lines) ≡ following (rows_in l.data_bays (l.check_bays - l.counter) (lines_left l.lines)) (λ y. Ok (map vec_items l.rows.items ++ y.0, y.1))
