-- An array as a shelf, by the table of the shelf below and its plan, and what its calls do below.
use Rattle.std.specs.Prelude.{◌≡◌, ℕ, ◌^◌, ◌<◌, List, Option, Some, None, Ok, Err, Result, MatchBool}
use Rattle.field.specs.Arithmetic.{Arithmetic}
use Rattle.plan.specs.Coefficients.{Coefficients}
use Rattle.shelf.specs.declared.refusal.Refusal.{Refusal}
use Rattle.shelf.specs.Table.{Table}
use Rattle.shelf.specs.Calls.{Outcome, bit, refuses_lay, LayAnswer}
use Rattle.plan.specs.Rows.{Tells}
use Rattle.array.specs.declared.coded.Array.{Array}
use Rattle.array.specs.Decoding.{decoded, InOrder}
use Rattle.array.specs.Changes.{row_words}

-- `table` and `sound` are those of the shelf below, k is the arithmetic of the plan's field, and `coefficients` are the plan's
abbrev pub array_table : {S P : Type 0} → (S → Table) → Arithmetic → (P → Coefficients) → Array S P → Table
array_table table k coefficients a = decoded k (coefficients a.plan) (table a.below)

-- An array is in order when the shelf below is, and some vector agrees with each place.
abbrev pub ArrayOrder : {S P : Type 0} → (S → Table) → (S → Type 0) → Arithmetic → (P → Coefficients) → Array S P → Type 0
ArrayOrder table sound k coefficients a = sound a.below × InOrder k (coefficients a.plan) (table a.below)

-- What each call promises of the array as a shelf.
abbrev pub ArrayOutcome : {A S P : Type 0} → (S → Table) → (S → Type 0) → Arithmetic → (P → Coefficients) → Array S P → Array S P → (Table → Option Refusal) → (Table → Table → Result A Refusal → Type 0) → Result A Refusal → Type 0
ArrayOutcome table sound k coefficients before after refusal promise r =
    Outcome (array_table table k coefficients) (ArrayOrder table sound k coefficients) before after refusal promise r

-- What a call did below, where `refusal` is why it is refused, if it is: a refused one nothing at all.
abbrev pub DoneBelow : {S P : Type 0} → Option Refusal → Array S P → Array S P → Type 0 → Type 0
DoneBelow (Some e) before after change = after ≡ before
DoneBelow None before after change = change

-- What each call does below: the plan stays, and from a state in order the table of the shelf below changes as the call says.
abbrev pub Beneath : {S P : Type 0} → (S → Table) → (S → Type 0) → Arithmetic → (P → Coefficients) → Array S P → Array S P → (Table → Option Refusal) → (Arithmetic → Coefficients → Table → Table → Type 0) → Type 0
Beneath table sound k coefficients before after refusal change =
    (after.plan ≡ before.plan)
    × DoneBelow (refusal (array_table table k coefficients before)) before after
    (ArrayOrder table sound k coefficients before → change k (coefficients before.plan) (table before.below) (table after.below))

-- The bits of a lay. The shelf below lays what each row gives on the words, and B tells which bits it answers. Bit j of the array is set
-- just where the bays with these bits set tell row j, and there are no bits past the last data bay.
abbrev pub LayBits : {S P : Type 0} → (S → Table) → (S → Type 0) → (S → S → ℕ → List ℕ → Result ℕ Refusal → Type 0) → Arithmetic → (P → Coefficients) → Array S P → Array S P → ℕ → List ℕ → Result ℕ Refusal → Type 0
LayBits table sound B k coefficients before after p ws (Ok bits) =
    (low : ℕ) × Outcome table sound before.below after.below (refuses_lay p (row_words k (coefficients before.plan) ws)) (LayAnswer p (row_words k (coefficients before.plan) ws)) (Ok low)
    × B before.below after.below p (row_words k (coefficients before.plan) ws) (Ok low)
    × ((j : ℕ) → j < (coefficients before.plan).n → MatchBool (bit bits j) (Tells k (coefficients before.plan) (bit low) j) (Tells k (coefficients before.plan) (bit low) j → ⊥))
    × (bits < 2 ^ (coefficients before.plan).n)
LayBits table sound B k coefficients before after p ws (Err e) = Unit {0}
