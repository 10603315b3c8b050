-- What a disk means: one bay that owns its words, and that runs or is stopped.
use Rattle.std.specs.Prelude.{◌≡◌, ℕ, Bool, true, cond, List, Ok, Err, Result}
use Rattle.shelf.specs.declared.refusal.Refusal.{Refusal}
use Rattle.shelf.specs.declared.refusal.Refusal.TheVariants.{Lost}
use Rattle.shelf.specs.Table.{Table, blank}
use Rattle.shelf.specs.Calls.{refuses_word, refuses_lay}
use Rattle.disk.specs.declared.disk.Disk.{Disk}
use Rattle.trays.specs.Device.{Device, one_bay, unless}
use Rattle.trays.specs.Words.{fits, words_device}

-- The table of one bay whose device runs or is stopped. A stopped one's cells are blank; its shape is that of a running one.
abbrev pub bay_of : Bool → Bool → Device → Table
bay_of running fit d = record {
  bays = (one_bay fit d).bays;
  places = (one_bay fit d).places;
  limit = (one_bay fit d).limit;
  cell = λ b p. cond running (d.cell p) blank;
  running = λ b. running;
}

abbrev pub disk_table : Disk → Table
disk_table d = bay_of d.running (fits d.words.items d.limit) (words_device d.words.items d.limit)

-- a disk is always in order
abbrev pub InOrder : Disk → Type 0
InOrder d = Unit {0}

-- What a disk answers beside what a tray does: nothing is lost during a call, so the answer is one value. A stopped disk stores nothing:
-- the bit of its lay is clear, and its patch is answered lost.
abbrev pub laid : Bool → ℕ → List ℕ → Table → Result ℕ Refusal
laid running p ws s = unless (refuses_lay p ws s) (Ok (cond running 1 0))

abbrev pub patched : Bool → ℕ → ℕ → ℕ → Table → Result Unit Refusal
patched running b p w s = unless (refuses_word b p w s) (cond running (Ok tt) (Err Lost))

-- whether a disk runs after an exchange: a fresh disk does
abbrev pub runs_after : {A : Type 0} → Result A Refusal → Bool → Bool
runs_after (Ok x) before = true
runs_after (Err e) before = before

-- a disk keeps its limit, and runs as before
pub record SameDisk (s t : Disk) : Type 0 where
  pub limit : t.limit ≡ s.limit
  pub running : t.running ≡ s.running
