-- What a reading answers: a value or a fault.
use Rattle.std.specs.Prelude.{◌≡◌, ℕ, ◌⊎◌, Ok, Err, Result}
use Rattle.command.specs.declared.command.Fault as of_tokens
use Rattle.command.specs.declared.command.Fault.TheVariants as tokens
use Rattle.description.specs.declared.fault.Fault.{Fault}
use Rattle.description.specs.declared.fault.Fault.TheVariants.{Line, Memory}

-- goes on with a value, and stops at a fault
abbrev pub following : {X Y : Type 0} → Result X Fault → (X → Result Y Fault) → Result Y Fault
following (Ok x) next = next x
following (Err e) next = Err e

-- the answer is the value that is due, as f sees it, or the fault that is due; only want of memory may come instead
abbrev pub Answers : {X Y : Type 0} → (X → Y) → Result Y Fault → Result X Fault → Type 0
Answers f due (Ok x) = due ≡ Ok (f x)
Answers f due (Err e) = (e ≡ Memory) ⊎ (due ≡ Err e)

-- the fault of the tokens of a line, as one of the text
abbrev pub placed : ℕ → of_tokens.Fault → Fault
placed n tokens.UnknownCommand = Line n tokens.UnknownCommand
placed n tokens.UnknownField = Line n tokens.UnknownField
placed n tokens.UnknownPlan = Line n tokens.UnknownPlan
placed n (tokens.NotANumber token) = Line n (tokens.NotANumber token)
placed n tokens.TokenCount = Line n tokens.TokenCount
placed n tokens.Memory = Memory

-- what the tokens of a line mean, as a part of the text
abbrev pub at_line : {X : Type 0} → ℕ → Result X of_tokens.Fault → Result X Fault
at_line n (Ok x) = Ok x
at_line n (Err e) = Err (placed n e)
