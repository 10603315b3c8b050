-- The calls of a drill that are not refused: each is counted, and then finds its bay stopped or is carried out below.
use Rattle.std.proofs.Common.{◌≡◌, ℕ, true, None, Ok, Err, Option, Result, sym, ◌∙◌, subst}
use Rattle.shelf.specs.declared.refusal.Refusal.{Refusal}
use Rattle.shelf.specs.declared.refusal.Refusal.TheVariants.{Lost}
use Rattle.shelf.specs.Table.{Table, SameShape}
use Rattle.shelf.specs.Calls.{Outcome, Settled}
use Rattle.shelf.proofs.Settling.{same_shape, done, when_done}
use Rattle.layers.specs.declared.schedule.Schedule.{Schedule}
use Rattle.layers.specs.declared.drill.Drill.{Drill}
use Rattle.layers.specs.Schedules.{counting, stopped, CountsCall}
use Rattle.layers.specs.Drills.{stopping, drill_table, HeldOrder}
use Rattle.layers.proofs.Halting.{stopped_mono, stop_shape, Stoppable}

-- a bay stopped before a call is stopped once it is counted
pub still_stopped : (s s' : Schedule) → s' ≡ counting s → (b : ℕ) → stopped s b ≡ true → stopped s' b ≡ true
still_stopped s s' e b h = subst (λ (x : Schedule). stopped x b ≡ true) (sym e) (stopped_mono s b h)

module _ {S A : Type 0} (table : S → Table) (sound : S → Type 0) (d d' : Drill S) (bay : ℕ) (refusal : Table → Option Refusal) (promise : Table → Table → Result A Refusal → Type 0) (kind : Stoppable bay refusal promise) (none : refusal (table d.shelf) ≡ None) where
  -- the drill's table has the shape of the shelf's, so a call is refused alike
  refused_not : refusal (drill_table table d) ≡ None
  refused_not = kind.alike (stopped d.schedule) (table d.shelf) ∙ none

  -- the bay is stopped: lost, and the shelf below is as it was
  pub found_stopped : (e : Refusal) → CountsCall bay d.schedule d'.schedule (Err e) → d'.shelf ≡ d.shelf → Outcome (drill_table table) (HeldOrder sound) d d' refusal promise (Err e)
  found_stopped e (count, now, lost) same =
      let f = stopped d.schedule in
      let f' = stopped d'.schedule in
      subst (λ (r : Refusal). Outcome (drill_table table) (HeldOrder sound) d d' refusal promise (Err r)) (sym lost)
      (subst (λ (x : S). SameShape (stopping f (table d.shelf)) (stopping f' (table x)) × Settled (stopping f (table d.shelf)) (stopping f' (table x)) (sound d.shelf) (sound x) (refusal (drill_table table d)) promise (Err Lost)) (sym same)
      (done _ _ _ _ _ _ _ refused_not (stop_shape f f' (table d.shelf) (table d.shelf) (same_shape (table d.shelf)))
      (λ x. (x, kind.lost f f' (table d.shelf) (still_stopped d.schedule d'.schedule count) now))))

  -- it is not: what the shelf below shows of the call, the drill shows
  pub found_running : CountsCall bay d.schedule d'.schedule (Ok tt) → (r : Result A Refusal) → Outcome table sound d.shelf d'.shelf refusal promise r → Outcome (drill_table table) (HeldOrder sound) d d' refusal promise r
  found_running (count, out) r below =
      let f = stopped d.schedule in
      let f' = stopped d'.schedule in
      done _ _ _ _ _ _ _ refused_not (stop_shape f f' (table d.shelf) (table d'.shelf) below.0)
      (λ x.
      let k = when_done (table d.shelf) (table d'.shelf) (sound d.shelf) (sound d'.shelf) (refusal (table d.shelf)) promise r none below x in
      (k.0, kind.free f f' (table d.shelf) (table d'.shelf) below.0 (still_stopped d.schedule d'.schedule count) out r k.1))
