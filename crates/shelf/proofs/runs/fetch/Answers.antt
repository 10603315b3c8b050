use Rattle.std.proofs.Common.{◌<◌, length, arith}
use Rattle.shelf.proofs.Settling.{tested_exchange, tested_run}
use Rattle.shelf.proofs.Running.{words_bound}
use Rattle.shelf.proofs.Fetching.{fetch_there, fetched_word, fetched_lost, fetched_all}
use Rattle.shelf.proofs.runs.fetch.Goals as goal
use Rattle.shelf.proofs.runs.fetch.Goals.{in-Ok, in-Err}

pub overflow_add-found : goal.overflow_add-found
overflow_add-found g c = let (rs, n, reads, ws, ms, f) = c.loop-i.invariant in let b = words_bound rs in omega arith

pub loop-i-preserved : goal.loop-i-preserved
loop-i-preserved g c =
    let i : c.loop-i.i < length c.args.words.now = c.loop-i-test.true in
    let j : c.loop-i.i < length c.args.marks.now = omega (arith, c.if-words-marks.false) in
    elim c.match-read.branch [
      | in-Ok w ↦
          fetched_word g.S.Shelf.table g.S.Shelf.sound c.args.bay c.args.first _ c.loop-i.shelf _ c.loop-i.words _ c.loop-i.marks _ c.loop-i.found c.loop-i.invariant
          c.read.new.self w.in-Ok.word _ _ _ w.in-Ok.ensures i j w.words-is w.marks-is w.found-is
      | in-Err w ↦
          fetched_lost g.S.Shelf.table g.S.Shelf.sound c.args.bay c.args.first _ c.loop-i.shelf _ c.loop-i.words _ c.loop-i.marks _ c.loop-i.found c.loop-i.invariant
          c.read.new.self w.in-Err.field-0 _ _ _ w.in-Err.ensures j w.words-is w.marks-is w.found-is
    ]

pub returns : goal.returns
returns g c =
    let t = g.S.Shelf.table c.args.shelf.now in
    let b = tested_exchange t _ _ c.shape.ensures c.from-shape.ensures c.args.bay c.in_ok-check_bay.ensures in
    let p = tested_run t _ _ c.shape.ensures c.from-shape.ensures c.args.first (length c.args.words.now) c.in_ok-check_run.ensures in
    let there = fetch_there t c.args.bay c.args.first (length c.args.words.now) (length c.args.marks.now) b c.if-words-marks.false p in
    fetched_all g.S.Shelf.table g.S.Shelf.sound c.args.bay c.args.first c.args.shelf.now c.loop-i.shelf c.args.words.now c.loop-i.words c.args.marks.now c.loop-i.marks c.loop-i.i c.loop-i.found c.loop-i.invariant there (omega (arith, c.loop-i.auto.i-end, c.loop-i-test.false))
