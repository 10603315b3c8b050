use Rattle.std.proofs.Common.{arith}
use Rattle.shelf.proofs.Settling.{own_bays, tested_run}
use Rattle.shelf.proofs.Surveying.{surveyed_word, surveyed_lost, surveyed_short, surveyed_all}
use Rattle.shelf.proofs.runs.survey.Goals as goal
use Rattle.shelf.proofs.runs.survey.Goals.{in-Err+else-found-list, in_default}

pub returns-then-found-list : goal.returns-then-found-list
returns-then-found-list g c =
    surveyed_short g.S.Shelf.table g.S.Shelf.sound c.from-shape.result.bays c.args.first c.args.shelf.now c.loop-k.shelf c.args.list.now c.loop-k.list c.loop-k.k c.loop-k.found c.loop-k.invariant c.args.count (own_bays (g.S.Shelf.table c.args.shelf.now) _ _ c.shape.ensures c.from-shape.ensures) (tested_run (g.S.Shelf.table c.args.shelf.now) _ _ c.shape.ensures c.from-shape.ensures c.args.first c.args.count c.in_ok-check_run.ensures)
    c.read.new.self c.in-Err.field-0 c.in-Err.ensures (omega (arith, c.if-found-list.true, c.loop-k.auto.list)) c.loop-k-test.true

pub loop-k-preserved : goal.loop-k-preserved
loop-k-preserved g c = elim c.match-read.branch [
  | in-Err+else-found-list w ↦
      surveyed_lost g.S.Shelf.table g.S.Shelf.sound c.from-shape.result.bays c.args.first c.args.shelf.now c.loop-k.shelf c.args.list.now c.loop-k.list c.loop-k.k c.loop-k.found c.loop-k.invariant
      c.read.new.self w.in-Err.field-0 _ _ w.in-Err.ensures (omega (arith, w.if-found-list.false, c.loop-k.auto.list)) w.list-is w.found-is
  | in_default w ↦
      surveyed_word g.S.Shelf.table g.S.Shelf.sound c.from-shape.result.bays c.args.first c.args.shelf.now c.loop-k.shelf c.args.list.now c.loop-k.list c.loop-k.k c.loop-k.found c.loop-k.invariant
      c.read.new.self w.in_default.field-0 _ _ w.in_default.ensures w.list-is w.found-is
]

pub returns : goal.returns
returns g c =
    surveyed_all g.S.Shelf.table g.S.Shelf.sound c.from-shape.result.bays c.args.first c.args.shelf.now c.loop-k.shelf c.args.list.now c.loop-k.list c.loop-k.k c.loop-k.found c.loop-k.invariant c.args.count (own_bays (g.S.Shelf.table c.args.shelf.now) _ _ c.shape.ensures c.from-shape.ensures) (tested_run (g.S.Shelf.table c.args.shelf.now) _ _ c.shape.ensures c.from-shape.ensures c.args.first c.args.count c.in_ok-check_run.ensures)
    (omega (arith, c.loop-k.auto.k-end, c.loop-k-test.false))
