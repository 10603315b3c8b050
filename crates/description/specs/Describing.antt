-- What a description says, without where it lies in memory.
use Rattle.std.specs.Prelude.{ℕ, List, map, vec_items}
use Rattle.command.specs.declared.command.FieldName.{FieldName}
use Rattle.description.specs.declared.description.PlanName.{PlanName}
use Rattle.description.specs.declared.description.PlanName.TheVariants.{Powers, Groups, Written}
use Rattle.description.specs.declared.description.Below.{Below}
use Rattle.description.specs.declared.description.Below.TheVariants.{Disks, Archives}
use Rattle.description.specs.declared.description.Description.{Description}

-- a plan; a written one with the codes of each check
pub data Planned : Type 0 where
  powers : Planned
  groups : Planned
  written : List (List ℕ) → Planned

-- what stands below, as the paths of it
pub data Under : Type 0 where
  disks : List (List ℕ) → Under
  archives : List (List ℕ) → Under

-- a description
pub record Plain : Type 0 where
  pub words : FieldName
  pub checks : Planned
  pub data_count : ℕ
  pub check_count : ℕ
  pub place_count : ℕ
  pub under : Under

-- the plan that a value of the program stands for
abbrev pub planned : PlanName → Planned
planned Powers = powers
planned Groups = groups
planned (Written table) = written (map vec_items table.items)

-- and what it says stands below
abbrev pub under_of : Below → Under
under_of (Disks paths) = disks (map vec_items paths.items)
under_of (Archives paths) = archives (map vec_items paths.items)

-- the description that a value of the program stands for
abbrev pub described : Description → Plain
described d = record { words = d.field; checks = planned d.plan; data_count = d.data_bays; check_count = d.check_bays; place_count = d.places; under = under_of d.below }
