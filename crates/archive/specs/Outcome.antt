-- What a call leaves and answers.
use Rattle.std.specs.Prelude.{◌≡◌, ◌⊎◌, Ok, Err, Result}
use Rattle.command.specs.declared.command.Fault as command
use Rattle.command.specs.declared.command.Fault.TheVariants as read
use Rattle.archive.specs.declared.fault.Fault.{Fault}
use Rattle.archive.specs.declared.fault.Fault.TheVariants.{Text, Memory}

pub record Outcome (S A : Type 0) : Type 0 where
  pub after : S
  pub answer : Result A Fault

-- Why a line that gives no command was not carried out.
abbrev pub read_fault : command.Fault → Fault
read_fault read.UnknownCommand = Text read.UnknownCommand
read_fault read.UnknownField = Text read.UnknownField
read_fault read.UnknownPlan = Text read.UnknownPlan
read_fault (read.NotANumber token) = Text (read.NotANumber token)
read_fault read.TokenCount = Text read.TokenCount
read_fault read.Memory = Memory

-- nothing is changed
abbrev pub refused : {S A : Type 0} → S → Fault → Outcome S A
refused s e = record { after = s; answer = Err e }

-- The call leaves and answers what is due, as f sees the answer; only want of memory may come instead, and then nothing changes.
abbrev pub Carried : {S A B : Type 0} → (B → A) → S → S → Outcome S A → Result B Fault → Type 0
Carried f before after due (Ok b) = (after ≡ due.after) × (due.answer ≡ Ok (f b))
Carried f before after due (Err e) = ((after ≡ due.after) × (due.answer ≡ Err e)) ⊎ ((e ≡ Memory) × (after ≡ before))
