-- What a reading answers: a value or a fault.
use Rattle.std.specs.Prelude.{◌≡◌, ◌⊎◌, Ok, Err, Result}
use Rattle.command.specs.declared.command.Fault.{Fault}
use Rattle.command.specs.declared.command.Fault.TheVariants.{Memory}

-- goes on with a value, and stops at a fault
abbrev pub following : {X Y : Type 0} → Result X Fault → (X → Result Y Fault) → Result Y Fault
following (Ok x) next = next x
following (Err e) next = Err e

-- the answer is the value that is due, as f sees it, or the fault that is due; only want of memory may come instead
abbrev pub Answers : {X Y : Type 0} → (X → Y) → Result Y Fault → Result X Fault → Type 0
Answers f due (Ok x) = due ≡ Ok (f x)
Answers f due (Err e) = (e ≡ Memory) ⊎ (due ≡ Err e)
