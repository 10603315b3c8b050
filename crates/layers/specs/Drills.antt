-- What a drill means: the shelf that it holds, with the bays stopped whose events have taken effect.
use Rattle.std.specs.Prelude.{◌≡◌, ℕ, ◌<◌, Bool, true, false, cond, not, ◌&&◌, List, Some, None, Ok, Err, Option, Result}
use Rattle.shelf.specs.declared.refusal.Refusal.{Refusal}
use Rattle.shelf.specs.declared.refusal.Refusal.TheVariants.{Lost}
use Rattle.shelf.specs.Table.{Table, blank}
use Rattle.shelf.specs.Calls.{Outcome, refuses_lay, LayAnswer, bit}
use Rattle.layers.specs.declared.drill.Drill.{Drill}
use Rattle.layers.specs.declared.overfull.Overfull.{Overfull}
use Rattle.layers.specs.Schedules.{empty, Planned, counting, stopped, spending}

-- a table with some bays stopped, whose cells then count as blank
abbrev pub stopping : (ℕ → Bool) → Table → Table
stopping f t = record {
  bays = t.bays;
  places = t.places;
  limit = t.limit;
  cell = λ b p. cond (f b) blank (t.cell b p);
  running = λ b. cond (f b) false (t.running b);
}

-- the table of a drill, by that of its shelf
abbrev pub drill_table : {S : Type 0} → (S → Table) → Drill S → Table
drill_table f d = stopping (stopped d.schedule) (f d.shelf)

-- a drill is in order when its shelf is
abbrev pub HeldOrder : {S : Type 0} → (S → Type 0) → Drill S → Type 0
HeldOrder P d = P d.shelf

-- a new drill has no events, and has counted no calls
pub record New {S : Type 0} (below : S) (d : Drill S) : Type 0 where
  pub shelf : d.shelf ≡ below
  pub schedule : d.schedule ≡ empty

-- a further event is planned or refused, and the shelf is as it was
pub record Added {S : Type 0} (call bay : ℕ) (d d' : Drill S) (r : Result Unit Overfull) : Type 0 where
  pub shelf : d'.shelf ≡ d.shelf
  pub schedule : Planned call bay d.schedule d'.schedule r

-- a refused call changes nothing; any other is counted, and the events stay
abbrev pub Counts : {S : Type 0} → Option Refusal → Drill S → Drill S → Type 0
Counts (Some e) d d' = d' ≡ d
Counts None d d' = d'.schedule ≡ counting d.schedule

-- in a bay that is stopped once the call is counted, the answer is lost, and nothing is done below
abbrev pub StopsCall : {A S : Type 0} → Option Refusal → ℕ → Drill S → Drill S → Result A Refusal → Type 0
StopsCall refusal bay d d' r = refusal ≡ None → stopped d'.schedule bay ≡ true → (r ≡ Err Lost) × (d'.shelf ≡ d.shelf)

-- and in any other bay, the call is that of the shelf below, whose cells in stopped bays are there still
abbrev pub PassesCall : {A S : Type 0} → (S → Table) → (S → Type 0) → ℕ → Drill S → Drill S → (Table → Option Refusal) → (Table → Table → Result A Refusal → Type 0) → Result A Refusal → Type 0
PassesCall f P bay d d' refusal promise r = stopped d'.schedule bay ≡ false → Outcome f P d.shelf d'.shelf refusal promise r

-- the bits of a lay are those that the shelf below answers, of which B tells, less those of the stopped bays
abbrev pub Masked : {S : Type 0} → (S → Table) → (S → Type 0) → (S → S → ℕ → List ℕ → Result ℕ Refusal → Type 0) → Drill S → Drill S → ℕ → List ℕ → Result ℕ Refusal → Type 0
Masked f P B d d' place ws (Ok bits) =
    (below : ℕ) × Outcome f P d.shelf d'.shelf (refuses_lay place ws) (LayAnswer place ws) (Ok below)
    × ((b : ℕ) → b < (f d.shelf).bays → bit bits b ≡ (not (stopped d'.schedule b) && bit below b)) × B d.shelf d'.shelf place ws (Ok below)
Masked f P B d d' place ws (Err e) = Unit {0}

-- A refused exchange changes nothing. Any other spends the bay's past events, so that none stops the bay any more, and counts nothing.
abbrev pub Spends : {S : Type 0} → Option Refusal → ℕ → Drill S → Drill S → Type 0
Spends (Some e) bay d d' = d' ≡ d
Spends None bay d d' = (d'.schedule ≡ spending bay d.schedule) × (stopped d'.schedule bay ≡ false)
