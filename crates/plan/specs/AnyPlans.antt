-- A plan of any kind has the coefficients of its own kind.
use Rattle.field.specs.Arithmetic.{Arithmetic, Lawful}
use Rattle.plan.specs.Coefficients.{Coefficients, Fitting}
use Rattle.plan.specs.Powers.{powers}
use Rattle.plan.specs.Groups.{groups}
use Rattle.plan.specs.Written.{written}
use Rattle.plan.specs.Powering.{powers_fitting}
use Rattle.plan.specs.Fits.{groups_fitting, written_fitting}
use Rattle.plan.specs.declared.any_plan.AnyPlan.{AnyPlan}
use Rattle.plan.specs.declared.any_plan.AnyPlan.TheVariants.{Powers, Groups, Written}

abbrev pub any_coefficients : {F : Type 0} → Arithmetic → AnyPlan F → Coefficients
any_coefficients k (Powers p) = powers k p.bays.data_bays p.bays.check_bays
any_coefficients k (Groups p) = groups p.bays.data_bays p.bays.check_bays
any_coefficients k (Written p) = written k p.bays.data_bays p.bays.check_bays p.table

-- and fits as that does
pub any_fitting : {F : Type 0} (k : Arithmetic) → Lawful k → (p : AnyPlan F) → Fitting k (any_coefficients k p)
any_fitting k l (Powers p) = powers_fitting k l p.bays.data_bays p.bays.check_bays p.bays.some_data p.bays.few_data p.bays.some_checks p.bays.few_checks
any_fitting k l (Groups p) = groups_fitting k l p.bays.data_bays p.bays.check_bays p.bays.some_data p.bays.few_data p.bays.some_checks p.bays.few_checks
any_fitting k l (Written p) = written_fitting k l p.bays.data_bays p.bays.check_bays p.table p.bays.some_data p.bays.few_data p.bays.some_checks p.bays.few_checks
