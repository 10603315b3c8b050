-- What a line asks of a shelf in memory.
use Rattle.std.specs.Prelude.{ℕ, cond, List, Err, vec_items, codes, slice_index, Option, Result}
use Rattle.std.specs.Option.{option_map}
use Rattle.std.specs.Str.{bytes_eq}
use Rattle.command.specs.Arguments.{exactly, one_and_rest, taking}
use Rattle.command.specs.Lines.{line_means, present}
use Rattle.command.specs.Outcome.{Answers}
use Rattle.command.specs.declared.calls.ShelfCall.{ShelfCall}
use Rattle.command.specs.declared.calls.ShelfCall.TheVariants.{Stop, Read, Write, Lay, Patch, Exchange, Mend, Sweep, Below, Fetch, Survey, End}
use Rattle.command.specs.declared.command.Fault.{Fault}
use Rattle.command.specs.declared.command.Fault.TheVariants.{UnknownCommand}

-- a call, with its words as a list; its parts are in the order of the tokens
pub data Call : Type 0 where
  stop : ℕ → ℕ → Call
  read : ℕ → ℕ → Call
  write : ℕ → ℕ → ℕ → Call
  lay : ℕ → List ℕ → Call
  patch : ℕ → ℕ → ℕ → Call
  exchange : ℕ → Call
  mend : ℕ → ℕ → Call
  sweep : ℕ → ℕ → ℕ → Call
  below : ℕ → ℕ → Call
  fetch : ℕ → ℕ → ℕ → Call
  survey : ℕ → ℕ → Call
  end : Call

-- the call that a value of the program stands for
abbrev pub called : ShelfCall → Call
called (Stop call bay) = stop call bay
called (Read bay place) = read bay place
called (Write bay place word) = write bay place word
called (Lay place words) = lay place (vec_items words)
called (Patch bay place word) = patch bay place word
called (Exchange bay) = exchange bay
called (Mend bay place) = mend bay place
called (Sweep bay first count) = sweep bay first count
called (Below bay place) = below bay place
called (Fetch bay first count) = fetch bay first count
called (Survey first count) = survey first count
called End = end

-- What the tokens after a call's name mean.

-- stop CALL BAY
abbrev pub stopping : List (List ℕ) → Result Call Fault
stopping ts = taking (exactly 2) 2 ts (λ n. stop (slice_index n 0) (slice_index n 1))

-- read BAY PLACE
abbrev pub cell_reading : List (List ℕ) → Result Call Fault
cell_reading ts = taking (exactly 2) 2 ts (λ n. read (slice_index n 0) (slice_index n 1))

-- write BAY PLACE WORD
abbrev pub cell_writing : List (List ℕ) → Result Call Fault
cell_writing ts = taking (exactly 3) 2 ts (λ n. write (slice_index n 0) (slice_index n 1) (slice_index n 2))

-- lay PLACE WORD WORD ..
abbrev pub shelf_laying : List (List ℕ) → Result Call Fault
shelf_laying ts = taking one_and_rest 2 ts (λ n. lay n.0 n.1)

-- patch BAY PLACE WORD
abbrev pub patching : List (List ℕ) → Result Call Fault
patching ts = taking (exactly 3) 2 ts (λ n. patch (slice_index n 0) (slice_index n 1) (slice_index n 2))

-- exchange BAY
abbrev pub exchanging : List (List ℕ) → Result Call Fault
exchanging ts = taking (exactly 1) 2 ts (λ n. exchange (slice_index n 0))

-- mend BAY PLACE
abbrev pub mending : List (List ℕ) → Result Call Fault
mending ts = taking (exactly 2) 2 ts (λ n. mend (slice_index n 0) (slice_index n 1))

-- sweep BAY FIRST COUNT
abbrev pub sweeping : List (List ℕ) → Result Call Fault
sweeping ts = taking (exactly 3) 2 ts (λ n. sweep (slice_index n 0) (slice_index n 1) (slice_index n 2))

-- below BAY PLACE
abbrev pub cell_below : List (List ℕ) → Result Call Fault
cell_below ts = taking (exactly 2) 2 ts (λ n. below (slice_index n 0) (slice_index n 1))

-- fetch BAY FIRST COUNT
abbrev pub fetching : List (List ℕ) → Result Call Fault
fetching ts = taking (exactly 3) 2 ts (λ n. fetch (slice_index n 0) (slice_index n 1) (slice_index n 2))

-- survey FIRST COUNT
abbrev pub surveying : List (List ℕ) → Result Call Fault
surveying ts = taking (exactly 2) 2 ts (λ n. survey (slice_index n 0) (slice_index n 1))

-- end
abbrev pub ending : List (List ℕ) → Result Call Fault
ending ts = taking (exactly 0) 2 ts (λ _. end)

-- the call of this name, with these tokens after the name
abbrev pub call_named : List ℕ → List (List ℕ) → Result Call Fault
call_named name ts =
    cond (bytes_eq name (codes "stop")) (stopping ts)
    (cond (bytes_eq name (codes "read")) (cell_reading ts)
    (cond (bytes_eq name (codes "write")) (cell_writing ts)
    (cond (bytes_eq name (codes "lay")) (shelf_laying ts)
    (cond (bytes_eq name (codes "patch")) (patching ts)
    (cond (bytes_eq name (codes "exchange")) (exchanging ts)
    (cond (bytes_eq name (codes "mend")) (mending ts)
    (cond (bytes_eq name (codes "sweep")) (sweeping ts)
    (cond (bytes_eq name (codes "below")) (cell_below ts)
    (cond (bytes_eq name (codes "fetch")) (fetching ts)
    (cond (bytes_eq name (codes "survey")) (surveying ts)
    (cond (bytes_eq name (codes "end")) (ending ts)
    (Err UnknownCommand))))))))))))

-- what a line means
unfoldable pub calling : List ℕ → Result (Option Call) Fault
calling line = line_means line (λ name ts. present (call_named name ts))

-- the answer is what the line means; only want of memory may come instead
abbrev pub ReadsCall : List ℕ → Result (Option ShelfCall) Fault → Type 0
ReadsCall line r = Answers (option_map called) (calling line) r
