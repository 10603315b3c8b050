use Rattle.array.proofs.Gathering.{next_skip, next_read}
use Rattle.array.proofs.finding.held_words.Goals as goal
use Rattle.array.proofs.finding.held_words.Goals.{then-bay-without, else-bay-without}

pub loop-bay-preserved : goal.loop-bay-preserved
loop-bay-preserved g c =
    let x = g.P.Plan.coefficients c.args.plan.now in
    elim c.if-bay-without.branch [
      | then-bay-without w ↦
          rw (w.below-is, w.equations-is)
          (next_read g.S.Shelf.table g.S.Shelf.sound x c.args.place c.args.without c.loop-bay.bay c.args.below.now c.loop-bay.below c.loop-bay.equations.items c.loop-bay.invariant
          w.read-read.new.self w.read-read.result w.add_word.new.equations.items w.add_word.ensures w.read-read.ensures)
      | else-bay-without w ↦
          rw (w.below-is, w.equations-is)
          (next_skip g.S.Shelf.table g.S.Shelf.sound x c.args.place c.args.without c.loop-bay.bay c.args.below.now c.loop-bay.below c.loop-bay.equations.items c.loop-bay.invariant w.if-bay-without.false)
    ]
