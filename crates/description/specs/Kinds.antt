-- The plans that the plan's line can name.
use Rattle.std.specs.Prelude.{ℕ, cond, List, Ok, Err, codes, Result}
use Rattle.std.specs.Str.{bytes_eq}
use Rattle.command.specs.declared.command.Fault.{Fault}
use Rattle.command.specs.declared.command.Fault.TheVariants.{UnknownPlan}
use Rattle.description.specs.declared.kind.PlanKind.{PlanKind}
use Rattle.description.specs.declared.kind.PlanKind.TheVariants.{Powers, Groups, Written}

-- the plan that a token names
abbrev pub kind_of : List ℕ → Result PlanKind Fault
kind_of t =
    cond (bytes_eq t (codes "powers")) (Ok Powers)
    (cond (bytes_eq t (codes "groups")) (Ok Groups)
    (cond (bytes_eq t (codes "written")) (Ok Written)
    (Err UnknownPlan)))
