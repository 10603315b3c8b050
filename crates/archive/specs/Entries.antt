-- What the account says of a command that was carried out.
use Rattle.std.specs.Prelude.{◌≡◌, ℕ, List, Some, None, Ok, Err, vec_items, Option, Result}
use Rattle.std.specs.Option.{option_map}
use Rattle.command.specs.Reading.{Order, archive, lay, write, lost, meant, reading}
use Rattle.command.specs.declared.command.Command.{Command}
use Rattle.command.specs.declared.command.Fault as command
use Rattle.command.specs.declared.command.Description.{Description}
use Rattle.linear.specs.Sets.{left, TellsJust}
use Rattle.archive.specs.Fields.{arithmetic_of}
use Rattle.archive.specs.Outcome.{Outcome, refused, read_fault, Carried}
use Rattle.archive.specs.Stripes.{Held, Shown, held, shown}
use Rattle.archive.specs.Contents.{Kept, kept, plan_of, describing, laying_in, writing_in, losing_in}
use Rattle.archive.specs.declared.contents.Contents.{Contents}
use Rattle.archive.specs.declared.fault.Fault.{Fault}
use Rattle.archive.specs.declared.loss.Loss.{Loss}
use Rattle.archive.specs.declared.report.Report.{Report}
use Rattle.archive.specs.declared.report.Report.TheVariants.{Described, Laid, Written, Lost}

pub data Entry : Type 0 where
  described : Description → Entry
  laid : ℕ → Held → Entry
  written : ℕ → ℕ → ℕ → Shown → Entry
  without : List ℕ → Entry

abbrev pub entry : Report → Entry
entry (Described d) = described d
entry (Laid place stripe) = laid place (held stripe)
entry (Written bay place word rewrite) = written bay place word (shown rewrite)
entry (Lost loss) = without (vec_items loss.lost)

abbrev pub answered : {A B : Type 0} → (A → B) → Result A Fault → Result B Fault
answered f (Ok a) = Ok (f a)
answered f (Err e) = Err e

-- the same outcome, answered as f says
abbrev pub answering : {S A B : Type 0} → (A → B) → Outcome S A → Outcome S B
answering f o = record { after = o.after; answer = answered f o.answer }

-- what a command leaves, and what the account says of it
abbrev pub carrying : Option Kept → Order → Outcome (Option Kept) Entry
carrying s (archive d) = answering (λ _. described d) (describing s d)
carrying s (lay place words) = answering (laid place) (laying_in s place words)
carrying s (write bay place word) = answering (written bay place word) (writing_in s bay place word)
carrying s (lost bays) = answering without (losing_in s bays)

-- what a line leaves, once it is read, and what the account says of it: nothing, where it means nothing
abbrev pub taking_read : Option Kept → Result (Option Order) command.Fault → Outcome (Option Kept) (Option Entry)
taking_read s (Ok None) = record { after = s; answer = Ok None }
taking_read s (Ok (Some o)) = answering Some (carrying s o)
taking_read s (Err e) = refused s (read_fault e)

abbrev pub taking : Option Kept → List ℕ → Outcome (Option Kept) (Option Entry)
taking s line = taking_read s (reading line)

-- What a command, and a line, promise of the contents before and after them.
abbrev pub Carries : Option Contents → Option Contents → Command → Result Report Fault → Type 0
Carries before after command r = Carried entry (kept before) (kept after) (carrying (kept before) (meant command)) r

abbrev pub Takes : Option Contents → Option Contents → List ℕ → Result (Option Report) Fault → Type 0
Takes before after line r = Carried (option_map entry) (kept before) (kept after) (taking (kept before) line) r

-- Where a word was written, the moved checks are the ones computed afresh.
abbrev pub Afresh : Result (Option Report) Fault → Type 0
Afresh (Ok None) = Unit {0}
Afresh (Ok (Some (Described d))) = Unit {0}
Afresh (Ok (Some (Laid place stripe))) = Unit {0}
Afresh (Ok (Some (Written bay place word rewrite))) = vec_items rewrite.after ≡ vec_items rewrite.afresh
Afresh (Ok (Some (Lost loss))) = Unit {0}
Afresh (Err e) = Unit {0}

-- Of lost bays it is said just what the other bays of the archive's plan tell.
abbrev pub ToldOf : Option Kept → Loss → Type 0
ToldOf None loss = ⊥
ToldOf (Some v) loss = (loss.data_bays ≡ v.data_bays) × TellsJust (arithmetic_of v.field) (plan_of v) (left (vec_items loss.lost)) loss.told

abbrev pub Told : Option Kept → Result (Option Report) Fault → Type 0
Told s (Ok None) = Unit {0}
Told s (Ok (Some (Described d))) = Unit {0}
Told s (Ok (Some (Laid place stripe))) = Unit {0}
Told s (Ok (Some (Written bay place word rewrite))) = Unit {0}
Told s (Ok (Some (Lost loss))) = ToldOf s loss
Told s (Err e) = Unit {0}
