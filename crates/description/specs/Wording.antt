-- What a fault says of itself.
use Rattle.std.specs.Prelude.{ℕ, List, ◌++◌, codes, decimal}
use Rattle.command.specs.Wording as of_tokens
use Rattle.command.specs.declared.command.Fault.TheVariants.{UnknownCommand, UnknownField, UnknownPlan, NotANumber, TokenCount}
use Rattle.command.specs.declared.command.Fault.TheVariants as tokens
use Rattle.description.specs.declared.fault.Fault.{Fault}
use Rattle.description.specs.declared.fault.Fault.TheVariants.{Missing, Misplaced, Line, Memory}
use Rattle.description.specs.declared.fault.Wanted.{Wanted}
use Rattle.description.specs.declared.fault.Wanted.TheVariants.{Title, Field, Plan, Row, Places, Path, Bay, Part}

-- the form of a line
abbrev pub line_form : Wanted → List ℕ
line_form Title = codes "raskold archive"
line_form Field = codes "field FIELD"
line_form Plan = codes "plan PLAN DATA CHECKS"
line_form Row = codes "row CODE .."
line_form Places = codes "places PLACES"
line_form Path = codes "bay PATH or part PATH"
line_form Bay = codes "bay PATH"
line_form Part = codes "part PATH"

-- a line's number, in front of what is wrong with it
abbrev pub at_number : ℕ → List ℕ → List ℕ
at_number n text = codes "line " ++ (decimal n ++ (codes ": " ++ text))

-- why a text gives no description
abbrev pub wording : Fault → List ℕ
wording (Missing w) = codes "the text ends where this line is wanted: " ++ line_form w
wording (Misplaced n w) = at_number n (codes "this line is wanted here: " ++ line_form w)
wording (Line n UnknownPlan) = at_number n (codes "unknown plan: powers, groups or written")
wording (Line n TokenCount) = at_number n (codes "too few or too many tokens")
wording (Line n UnknownCommand) = at_number n (of_tokens.wording UnknownCommand)
wording (Line n UnknownField) = at_number n (of_tokens.wording UnknownField)
wording (Line n (NotANumber t)) = at_number n (of_tokens.wording (NotANumber t))
wording (Line n tokens.Memory) = at_number n (of_tokens.wording tokens.Memory)
wording Memory = codes "out of memory"
