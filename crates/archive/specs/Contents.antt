-- What an archive holds: its field, its numbers of data and check bays, and the stripes at its places.
use Rattle.std.specs.Option.{option_map}
use Rattle.std.specs.Prelude.{◌≡◌, ℕ, Bool, cond, ◌&&◌, ◌⊎◌, List, replicate, Some, None, Ok, Err, vec_items, Option, Result, nat_le}
use Rattle.plan.specs.Coefficients.{Coefficients, Fitting}
use Rattle.plan.specs.Powers.{powers}
use Rattle.plan.specs.Refusals.{bays_refusal}
use Rattle.plan.specs.declared.powers_plan.Powers.{Powers}
use Rattle.plan.specs.declared.refusal.Refusal as plan
use Rattle.shelf.specs.declared.refusal.Refusal.{Refusal}
use Rattle.command.specs.declared.command.Description.{Description}
use Rattle.command.specs.declared.command.FieldName.{FieldName}
use Rattle.command.specs.declared.command.FieldName.TheVariants as name
use Rattle.archive.specs.Fields.{arithmetic_of}
use Rattle.archive.specs.Outcome.{Outcome, refused, Carried}
use Rattle.archive.specs.Stripes.{Held, Shown, held, shown, held_at, laying, writing, Loses, loss_refusal, Sound}
use Rattle.archive.specs.declared.contents.Contents.{Contents}
use Rattle.archive.specs.declared.contents.Contents.TheVariants.{Nibble, Byte, Count}
use Rattle.archive.specs.declared.fault.Fault.{Fault}
use Rattle.archive.specs.declared.fault.Fault.TheVariants.{NoArchive, Plan, PlacesOutOfRange, Refused, Memory}
use Rattle.archive.specs.declared.loss.Loss.{Loss}
use Rattle.archive.specs.declared.stripe.Stripe.{Stripe}
use Rattle.archive.specs.declared.stripe.Rewrite.{Rewrite}
use Rattle.archive.specs.declared.stripes.Stripes.{Stripes}

pub record Kept : Type 0 where
  pub field : FieldName
  pub data_bays : ℕ
  pub check_bays : ℕ
  pub places : List (Option Held)

abbrev pub kept_by : {F : Type 0} → FieldName → Stripes (Powers F) → Kept
kept_by f s = record {
  field = f;
  data_bays = s.plan.bays.data_bays;
  check_bays = s.plan.bays.check_bays;
  places = held_at (vec_items s.places);
}

abbrev pub kept_in : Contents → Kept
kept_in (Nibble s) = kept_by name.Nibble s
kept_in (Byte s) = kept_by name.Byte s
kept_in (Count s) = kept_by name.Count s

-- none, where no archive is described yet
abbrev pub kept : Option Contents → Option Kept
kept contents = option_map kept_in contents

-- its plan is the plan of powers
abbrev pub plan_of : Kept → Coefficients
plan_of v = powers (arithmetic_of v.field) v.data_bays v.check_bays

-- the same archive with other stripes
abbrev pub within : {A : Type 0} → Kept → Outcome (List (Option Held)) A → Outcome (Option Kept) A
within v o = record {
  after = Some (record { field = v.field; data_bays = v.data_bays; check_bays = v.check_bays; places = o.after });
  answer = o.answer;
}

-- a lay, and a write, in an archive: refused where there is none
abbrev pub laying_in : Option Kept → ℕ → List ℕ → Outcome (Option Kept) Held
laying_in None place words = refused None NoArchive
laying_in (Some v) place words = within v (laying (arithmetic_of v.field) (plan_of v) v.places place words)

abbrev pub writing_in : Option Kept → ℕ → ℕ → ℕ → Outcome (Option Kept) Shown
writing_in None bay place word = refused None NoArchive
writing_in (Some v) bay place word = within v (writing (arithmetic_of v.field) (plan_of v) v.places bay place word)

-- what is told of lost bays changes nothing: refused where there is no archive
abbrev pub losing_if : Option Kept → List ℕ → Option Refusal → Outcome (Option Kept) (List ℕ)
losing_if s lost (Some e) = refused s (Refused e)
losing_if s lost None = record { after = s; answer = Ok lost }

abbrev pub losing_in : Option Kept → List ℕ → Outcome (Option Kept) (List ℕ)
losing_in None lost = refused None NoArchive
losing_in (Some v) lost = losing_if (Some v) lost (loss_refusal (plan_of v) lost)

-- 1 to 65,536 places
abbrev pub enough_places : ℕ → Bool
enough_places places = nat_le 1 places && nat_le places 65536

-- why an archive is not described: its plan is refused, then its number of places
abbrev pub places_fault : ℕ → Option plan.Refusal → Option Fault
places_fault places (Some e) = Some (Plan e)
places_fault places None = cond (enough_places places) None (Some PlacesOutOfRange)

abbrev pub description_fault : Description → Option Fault
description_fault d = places_fault d.places (bays_refusal d.data_bays d.check_bays)

-- an archive with nothing laid
abbrev pub fresh : Description → Kept
fresh d = record { field = d.field; data_bays = d.data_bays; check_bays = d.check_bays; places = replicate d.places None }

abbrev pub describing_if : Option Kept → Description → Option Fault → Outcome (Option Kept) (Unit {0})
describing_if s d (Some e) = refused s e
describing_if s d None = record { after = Some (fresh d); answer = Ok tt }

-- A new archive, with nothing laid, takes the place of the one before.
abbrev pub describing : Option Kept → Description → Outcome (Option Kept) (Unit {0})
describing s d = describing_if s d (description_fault d)

-- The plan fits its field, and every stripe of the archive is coded.
abbrev pub AllCoded : Option Kept → Type 0
AllCoded None = Unit {0}
AllCoded (Some v) = Fitting (arithmetic_of v.field) (plan_of v) × Sound (arithmetic_of v.field) (plan_of v) v.places

-- The contents that a description makes, as answered: fresh ones, or why there are none.
abbrev pub Made : Description → Result Contents Fault → Type 0
Made d (Ok c) = (description_fault d ≡ None) × (kept_in c ≡ fresh d)
Made d (Err e) = (description_fault d ≡ Some e) ⊎ (e ≡ Memory)

-- The same of the stripes alone.
abbrev pub MadeStripes : {F : Type 0} → Description → Result (Stripes (Powers F)) Fault → Type 0
MadeStripes d (Ok s) =
    (description_fault d ≡ None)
    × (s.plan.bays.data_bays ≡ d.data_bays) × (s.plan.bays.check_bays ≡ d.check_bays) × (held_at (vec_items s.places) ≡ replicate d.places None)
MadeStripes d (Err e) = (description_fault d ≡ Some e) ⊎ (e ≡ Memory)

-- What the calls promise of the contents before and after them.
abbrev pub LaysIn : Contents → Contents → ℕ → List ℕ → Result Stripe Fault → Type 0
LaysIn before after place words r = Carried held (Some (kept_in before)) (Some (kept_in after)) (laying_in (Some (kept_in before)) place words) r

abbrev pub WritesIn : Contents → Contents → ℕ → ℕ → ℕ → Result Rewrite Fault → Type 0
WritesIn before after bay place word r = Carried shown (Some (kept_in before)) (Some (kept_in after)) (writing_in (Some (kept_in before)) bay place word) r

abbrev pub LosesIn : Contents → List ℕ → Result Loss Fault → Type 0
LosesIn c lost r = Loses (arithmetic_of (kept_in c).field) (plan_of (kept_in c)) lost r
