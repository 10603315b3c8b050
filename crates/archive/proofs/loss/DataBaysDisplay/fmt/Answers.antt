use Rattle.std.proofs.Common.{rules, sym, ◌∙◌}
use Rattle.std.specs.Result.{IsOk}
use Rattle.archive.proofs.Listing.{first_listed, next_listed, not_listed, some_then, none_still, wrote_same, wrote_two, wrote_three}
use Rattle.archive.proofs.loss.DataBaysDisplay.fmt.Goals as goal
use Rattle.archive.proofs.loss.DataBaysDisplay.fmt.Goals.{then-holds+in_ok-write, then-not-first+in_ok-write_str, else-not-first, else-holds}

-- a bay that is to be listed is written, behind a blank unless it is the first, and any other is passed over
pub loop-bay-preserved : goal.loop-bay-preserved
loop-bay-preserved g c plain =
    let d = c.args.self.now in
    let n = c.loop-bay.bay-counter in
    let before = c.loop-bay.invariant plain in
    let told = sym c.holds.ensures in
    elim c.if-holds.branch [
      | then-holds+in_ok-write w ↦
          let k = told ∙ w.if-holds.true in
          let number_written : IsOk w.write.result = search rules in
          elim w.if-not-first.branch [
            | then-not-first+in_ok-write_str v ↦
                let blank_written : IsOk v.write_str.result = search rules in
                (wrote_three _ c.args.f.now c.loop-bay.f v.write_str.new.self w.if-not-first.f w.write.new.self c.if-holds.f _ _ _ _ before.0 (v.write_str.ensures.writes before.0.plain blank_written) v.f-is (λ p. w.write.ensures.writes p number_written) w.f-is (next_listed d n k (sym before.1 ∙ v.if-not-first.true)), w.first-is ∙ some_then d n k)
            | else-not-first v ↦
                (wrote_two _ c.args.f.now c.loop-bay.f w.if-not-first.f w.write.new.self c.if-holds.f _ _ _ before.0 v.f-is (λ p. w.write.ensures.writes p number_written) w.f-is (first_listed d n k (sym before.1 ∙ v.if-not-first.false)), w.first-is ∙ some_then d n k)
          ]
      | else-holds w ↦
          let k = told ∙ w.if-holds.false in
          (wrote_same _ c.args.f.now c.loop-bay.f c.if-holds.f _ _ before.0 w.f-is (not_listed d n k), w.first-is ∙ before.1 ∙ none_still d n k)
    ]
