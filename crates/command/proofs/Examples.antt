-- What some lines mean.
use Rattle.std.proofs.Common.{◌≡◌, [], ◌∷◌, Some, None, Ok, Err, codes, refl}
use Rattle.command.specs.Calls as calls
use Rattle.command.specs.Calls.{calling}
use Rattle.command.specs.Openings.{opening}
use Rattle.command.specs.declared.opening.Opening.TheVariants.{Drill, Trays}
use Rattle.command.specs.Reading.{archive, lay, write, lost, reading, describing}
use Rattle.command.specs.declared.command.FieldName.TheVariants.{Byte}
use Rattle.command.specs.declared.command.Fault.TheVariants.{UnknownCommand, UnknownPlan, NotANumber, TokenCount}

archives : reading (codes "archive byte powers 4 2 100") ≡ Ok (Some (archive (record { field = Byte; data_bays = 4; check_bays = 2; places = 100 })))
unfolding reading describing
archives = refl

lays : reading (codes "  lay 7   1 002 3 ") ≡ Ok (Some (lay 7 (1 ∷ 2 ∷ 3 ∷ [])))
unfolding reading
lays = refl

lays_none : reading (codes "lay 7") ≡ Ok (Some (lay 7 []))
unfolding reading
lays_none = refl

writes : reading (codes "write 1 2 4294967295") ≡ Ok (Some (write 1 2 4294967295))
unfolding reading
writes = refl

loses : reading (codes "lost 0 5 7 8") ≡ Ok (Some (lost (0 ∷ 5 ∷ 7 ∷ 8 ∷ [])))
unfolding reading
loses = refl

remarks : reading (codes " #write 1 2 3") ≡ Ok None
unfolding reading
remarks = refl

too_large : reading (codes "write 1 2 4294967296") ≡ Err (NotANumber 4)
unfolding reading
too_large = refl

not_known : reading (codes "writes 1 2 3") ≡ Err UnknownCommand
unfolding reading
not_known = refl

too_many : reading (codes "write 1 2 3 4") ≡ Err TokenCount
unfolding reading
too_many = refl

no_plan : reading (codes "archive byte stripes 4 2 100") ≡ Err UnknownPlan
unfolding reading describing
no_plan = refl

no_number : reading (codes "archive byte powers 4 two 100") ≡ Err (NotANumber 5)
unfolding reading describing
no_number = refl

patches : calling (codes "patch 5 6 7") ≡ Ok (Some (calls.patch 5 6 7))
unfolding calling
patches = refl

ends : calling (codes "end") ≡ Ok (Some calls.end)
unfolding calling
ends = refl

no_numeral : calling (codes "end here") ≡ Err (NotANumber 2)
unfolding calling
no_numeral = refl

drills : opening (codes "drill 100") ≡ Ok (Some (Drill 100))
unfolding opening
drills = refl

trays : opening (codes "trays 16 4") ≡ Ok (Some (Trays 16 4))
unfolding opening
trays = refl

no_opening : opening (codes "read 1 2") ≡ Ok None
unfolding opening
no_opening = refl
