use Rattle.std.proofs.Common.{◌≡◌, ◌++◌, ◌∷◌, [], map, vec_items}
use Rattle.std.proofs.lemmas.Result.{err_from_is_err_and}
use Rattle.std.proofs.lemmas.List.{map_push}
use Rattle.description.specs.Cuts.{lines_left}
use Rattle.description.specs.Reading.{rows_in}
use Rattle.description.proofs.RowLoop.{row_goes_on, row_fails}
use Rattle.description.proofs.reading.read_rows.Goals as goal

-- a fault of a row is that of all
pub returns-in_err-row : goal.returns-in_err-row
returns-in_err-row c =
    let p = err_from_is_err_and c.from_residual.result c.from_residual.ensures.1 in
    rw (p.1, p.2) (row_fails c.args.data_bays c.args.check_bays c.loop.counter (lines_left c.loop.lines) (map vec_items c.loop.rows.items) c.in_err-row.field-0.0 (rows_in c.args.data_bays c.args.check_bays (lines_left c.args.lines)) c.loop-test.true c.in_err-row.ensures c.loop.invariant)

-- a row that was read is the last of those in front
pub loop-preserved : goal.loop-preserved
loop-preserved c =
    let row = c.in_ok-row.row in
    let e : map vec_items c.push.new.self.items ≡ map vec_items c.loop.rows.items ++ vec_items row ∷ [] = rw c.in_ok-push.ensures.items (map_push _ c.loop.rows.items row) in
    rw e (row_goes_on c.args.data_bays c.args.check_bays c.loop.counter (lines_left c.loop.lines) (lines_left c.in_ok-row.after) (map vec_items c.loop.rows.items) (vec_items row) (rows_in c.args.data_bays c.args.check_bays (lines_left c.args.lines)) c.loop-test.true c.in_ok-row.ensures c.loop.invariant)
