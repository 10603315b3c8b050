-- What the service calls of an array promise: s is the table below before the call, t the table below after it, r the answer. Bays are
-- counted below.
use Rattle.std.specs.Prelude.{◌≡◌, ℕ, ◌+◌, ◌<◌, true, false, cond, ◌≢◌, ◌⊎◌, List, [], ◌∷◌, map, length, Some, None, Ok, Err, Option, Result, nat_le, nat_lt}
use Rattle.field.specs.Arithmetic.{Arithmetic}
use Rattle.plan.specs.Coefficients.{Coefficients}
use Rattle.shelf.specs.declared.refusal.Refusal.{Refusal}
use Rattle.shelf.specs.declared.refusal.Refusal.TheVariants.{NoSuchBay, NoSuchPlace, Lost, Stopped}
use Rattle.shelf.specs.Refusals.{number, first_of, bay_refusal, cell_refusal}
use Rattle.shelf.specs.Table.{Table, blank, holds, SameShape, Decayed, Kept}
use Rattle.shelf.specs.Calls.{Outcome, Set, NoCell, ThisCell, Read, Exchanged, refuses_read}
use Rattle.array.specs.declared.mending.Mending.{Mending}
use Rattle.array.specs.declared.mending.Mending.TheVariants.{Whole, Patched}
use Rattle.array.specs.Decoding.{matched, decoded, Agrees, AllowsOne, AllowsMore}
use Rattle.array.specs.declared.coded.Array.{Array}
use Rattle.array.specs.Tables.{ArrayOrder}

-- the number of each answer of a mend: of a refusal it is the refusal's own
abbrev pub mending_number : Mending → ℕ
mending_number Whole = 0
mending_number Patched = 1

abbrev pub mend_number : Result Mending Refusal → ℕ
mend_number (Ok m) = mending_number m
mend_number (Err e) = number e

-- why a service call is refused for its arguments: an array that doesn't fit the shelf below has no bays there
abbrev pub refuses_mend : ℕ → ℕ → Arithmetic → Coefficients → Table → Option Refusal
refuses_mend b p k x s = cell_refusal (cond (matched k x s) s.bays 0) (cond (matched k x s) s.places 0) b p

abbrev pub refuses_fresh : ℕ → Arithmetic → Coefficients → Table → Option Refusal
refuses_fresh b k x s = bay_refusal (cond (matched k x s) s.bays 0) b

-- A cell below that gave its word is whole, and nothing is changed. One that gave none is patched with the one word that the cells at
-- the start allow for it: at the end it holds the word or is blank, and is filled where its bay runs. It is lost only where the cells at
-- the end allow more than one, and its bay is stopped only where it is so at the end, with the cell blank.
abbrev pub MendAnswer : Arithmetic → Coefficients → ℕ → ℕ → Table → Table → Result Mending Refusal → Type 0
MendAnswer k x b p s t (Ok Whole) = ((w : ℕ) × (s.cell b p ≡ holds w)) × Kept (s.cell b p) (t.cell b p)
MendAnswer k x b p s t (Ok Patched) = (w : ℕ) × AllowsOne k x s b p w × Set w (t.cell b p) × (t.running b ≡ true → t.cell b p ≢ blank)
MendAnswer k x b p s t (Err e) =
    ((e ≡ Lost) × AllowsMore k x t b p × Kept (s.cell b p) (t.cell b p))
    ⊎ ((e ≡ Stopped) × (t.running b ≡ false) × (t.cell b p ≡ blank))

-- the other cells below only decay
pub record MendsBelow (k : Arithmetic) (x : Coefficients) (b p : ℕ) (s t : Table) (r : Result Mending Refusal) : Type 0 where
  pub rest : Decayed (ThisCell b p) s t
  pub answer : MendAnswer k x b p s t r

-- The same between two states of the shelf below, where it matches the plan and some vector agrees with the place; Known is what else is
-- known of the cell before.
abbrev pub MendsCell : {Self : Type 0} → (Self → Table) → (Self → Type 0) → Arithmetic → Coefficients → ℕ → ℕ → Self → Self → Type 0 → Result Mending Refusal → Type 0
MendsCell table sound k x b p before after Known r =
    SameShape (table before) (table after)
    × (sound before → matched k x (table before) ≡ true → b < (table before).bays → p < (table before).places → (v : List ℕ) → Agrees k x (table before) p v → Known →
    sound after × MendsBelow k x b p (table before) (table after) r)

-- A mend begins with a read of its cell. Where that gives a word it answers whole and has done no more, and where it gives none it
-- answers otherwise.
abbrev pub NotWhole : Result Mending Refusal → Type 0
NotWhole r = r ≢ Ok Whole

abbrev pub WholeWhen : {Self : Type 0} → Result ℕ Refusal → Self → Self → Result Mending Refusal → Type 0
WholeWhen (Ok w) read after r = (r ≡ Ok Whole) × (after ≡ read)
WholeWhen (Err e) read after r = NotWhole r

abbrev pub ReadsFirst : {Self : Type 0} → (Self → Table) → (Self → Type 0) → ℕ → ℕ → Self → Self → Result Mending Refusal → Type 0
ReadsFirst {Self} table sound b p before after r =
    (read : Self) × (q : Result ℕ Refusal) × Outcome table sound before read (refuses_read b p) (Read b p) q × WholeWhen q read after r

-- And the array itself only decays: a mend fills no cell of it that was blank, and changes no word.
pub record Mends (b p : ℕ) (r : Result Mending Refusal) (k : Arithmetic) (x : Coefficients) (s t : Table) : Type 0 where
  pub below : MendsBelow k x b p s t r
  pub own : Decayed NoCell (decoded k x s) (decoded k x t)

-- A fresh device in a bay below: its cells are blank, and the bay may run again. The cells of the array keep their words or go blank.
pub record Freshens (b : ℕ) (r : Result Unit Refusal) (k : Arithmetic) (x : Coefficients) (s t : Table) : Type 0 where
  pub below : Exchanged b s t r
  pub own : (j p : ℕ) → j < (decoded k x s).bays → p < (decoded k x s).places → Kept ((decoded k x s).cell j p) ((decoded k x t).cell j p)

-- A refused service call changes nothing. Any other, on an array in order, leaves it in order and keeps its promise.
abbrev pub ServedWhen : {A S P : Type 0} → Option Refusal → Array S P → Array S P → Result A Refusal → Type 0 → Type 0
ServedWhen (Some e) before after r served = (r ≡ Err e) × (after ≡ before)
ServedWhen None before after r served = served

-- What a service call promises, where `refusal` is why it is refused for its arguments. The plan and the shape below stay.
abbrev pub Serves : {A S P : Type 0} → (S → Table) → (S → Type 0) → Arithmetic → (P → Coefficients) → Array S P → Array S P → (Arithmetic → Coefficients → Table → Option Refusal) → (Result A Refusal → Arithmetic → Coefficients → Table → Table → Type 0) → Result A Refusal → Type 0
Serves table sound k coefficients before after refusal promise r =
    (after.plan ≡ before.plan) × SameShape (table before.below) (table after.below)
    × ServedWhen (refusal k (coefficients before.plan) (table before.below)) before after r
    (ArrayOrder table sound k coefficients before → ArrayOrder table sound k coefficients after × promise r k (coefficients before.plan) (table before.below) (table after.below))

-- so a mend that is not refused reads first
abbrev pub MendReads : {S P : Type 0} → (S → Table) → (S → Type 0) → Arithmetic → (P → Coefficients) → Array S P → Array S P → ℕ → ℕ → Result Mending Refusal → Type 0
MendReads table sound k coefficients before after b p r =
    refuses_mend b p k (coefficients before.plan) (table before.below) ≡ None → ReadsFirst table sound b p before.below after.below r

-- why a sweep is refused: no such bay, then a run of places that passes the last
abbrev pub refuses_sweep : ℕ → ℕ → ℕ → Arithmetic → Coefficients → Table → Option Refusal
refuses_sweep b first count k x s =
    first_of ((nat_le (cond (matched k x s) s.bays 0) b, NoSuchBay) ∷ (nat_lt (cond (matched k x s) s.places 0) (first + count), NoSuchPlace) ∷ [])

-- The mends of a bay below at the places from `first` on, with these answers: each is a call of its own, from the state that the one
-- before it left.
abbrev pub AllMends : {S P : Type 0} → (S → Table) → (S → Type 0) → Arithmetic → (P → Coefficients) → ℕ → ℕ → Array S P → List (Result Mending Refusal) → Array S P → Type 0
AllMends table sound k coefficients b first before [] after = after ≡ before
AllMends {S} {P} table sound k coefficients b first before (r ∷ rs) after =
    (next : Array S P) × Serves table sound k coefficients before next (refuses_mend b first) (Mends b first) r × MendReads table sound k coefficients before next b first r
    × AllMends table sound k coefficients b (first + 1) next rs after

-- Sweep: a refused one changes nothing. Any other mends each place of the run, and puts the number of each answer in its byte.
abbrev pub SweptWhen : {S P : Type 0} → (S → Table) → (S → Type 0) → Arithmetic → (P → Coefficients) → Array S P → Array S P → ℕ → ℕ → List ℕ → List ℕ → Option Refusal → Result Unit Refusal → Type 0
SweptWhen table sound k coefficients before after b first bytes bytes' (Some e) r = (r ≡ Err e) × (after ≡ before) × (bytes' ≡ bytes)
SweptWhen table sound k coefficients before after b first bytes bytes' None r =
    (r ≡ Ok tt) × ((rs : List (Result Mending Refusal)) × AllMends table sound k coefficients b first before rs after × (bytes' ≡ map mend_number rs))

abbrev pub Sweeps : {S P : Type 0} → (S → Table) → (S → Type 0) → Arithmetic → (P → Coefficients) → Array S P → Array S P → ℕ → ℕ → List ℕ → List ℕ → Result Unit Refusal → Type 0
Sweeps table sound k coefficients before after b first bytes bytes' r =
    SweptWhen table sound k coefficients before after b first bytes bytes' (refuses_sweep b first (length bytes) k (coefficients before.plan) (table before.below)) r
