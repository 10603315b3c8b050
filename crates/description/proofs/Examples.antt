-- What some texts mean.
use Rattle.std.proofs.Common.{◌≡◌, [], ◌∷◌, Ok, Err, codes, refl}
use Rattle.command.specs.declared.command.FieldName.TheVariants.{Byte}
use Rattle.command.specs.declared.command.Fault.TheVariants.{UnknownPlan}
use Rattle.description.specs.Describing.{powers, disks}
use Rattle.description.specs.Lines.{said_after}
use Rattle.description.specs.Reading.{title_of, field_in, plan_tokens, plan_in, places_in, meaning, reading}
use Rattle.description.specs.declared.fault.Fault.TheVariants.{Missing, Misplaced, Line}
use Rattle.description.specs.declared.fault.Wanted.TheVariants.{Title, Places}

reads : reading (codes "raskold archive\n\nfield byte\n plan powers 1 1\nplaces 9\nbay a\n#\nbay b\n") ≡ Ok (record { words = Byte; checks = powers; data_count = 1; check_count = 1; place_count = 9; under = disks (codes "a" ∷ codes "b" ∷ []) })
unfolding said_after title_of field_in plan_tokens plan_in places_in meaning
reads = refl

empty : reading [] ≡ Err (Missing Title)
unfolding said_after title_of meaning
empty = refl

not_first : reading (codes "# a remark\nfield byte") ≡ Err (Misplaced 2 Title)
unfolding said_after title_of meaning
not_first = refl

no_plan : reading (codes "raskold archive\nfield byte\nplan some 1 1") ≡ Err (Line 3 UnknownPlan)
unfolding said_after title_of field_in plan_tokens plan_in meaning
no_plan = refl

no_places : reading (codes "raskold archive\nfield byte\nplan powers 1 1\n") ≡ Err (Missing Places)
unfolding said_after title_of field_in plan_tokens plan_in places_in meaning
no_places = refl
