-- The number of each refusal to make a plan, and when there is one.
use Rattle.std.specs.Prelude.{ℕ, ◌*◌, Bool, cond, ◌&&◌, ◌==◌, List, Some, None, codes, Option, nat_le}
use Rattle.plan.specs.Bounds.{most_data, most_checks}
use Rattle.plan.specs.declared.refusal.Refusal.{Refusal}
use Rattle.plan.specs.declared.refusal.Refusal.TheVariants.{BaysOutOfRange, TableLength}

abbrev pub number : Refusal → ℕ
number BaysOutOfRange = 14
number TableLength = 15

-- what is written of it
abbrev pub wording : Refusal → List ℕ
wording BaysOutOfRange = codes "a plan has 1 to 15 data bays and 1 to 8 check bays, and one of groups no more check bays than data bays"
wording TableLength = codes "a written plan has a table of 15 codes for each check bay"

-- 1 to 15 data bays and 1 to 8 check bays
abbrev pub in_range : ℕ → ℕ → Bool
in_range n m = nat_le 1 n && nat_le n most_data && nat_le 1 m && nat_le m most_checks

-- Why a plan with n data bays and m check bays is not made.
abbrev pub bays_refusal : ℕ → ℕ → Option Refusal
bays_refusal n m = cond (in_range n m) None (Some BaysOutOfRange)

-- Why a plan of groups is not made: it has no more check bays than data bays either.
abbrev pub groups_refusal : ℕ → ℕ → Option Refusal
groups_refusal n m = cond (in_range n m && nat_le m n) None (Some BaysOutOfRange)

-- Why a written plan is not made: its bays come first, and then its table, which has 15 codes for each check bay.
abbrev pub written_refusal : ℕ → ℕ → ℕ → Option Refusal
written_refusal n m long = cond (in_range n m) (cond (long == most_data * m) None (Some TableLength)) (Some BaysOutOfRange)
