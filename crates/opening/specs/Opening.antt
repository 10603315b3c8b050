-- The opening of an array: s is the table below before, t the table below after.
use Rattle.std.specs.Prelude.{◌≡◌, ℕ, ◌<◌, Bool, true, false, MatchBool, List, length, slice_index_or}
use Rattle.field.specs.Arithmetic.{Arithmetic}
use Rattle.plan.specs.Coefficients.{Coefficients}
use Rattle.shelf.specs.Table.{Table, blank, SameShape, Decayed, Kept}
use Rattle.shelf.specs.Calls.{ThisPlace}
use Rattle.array.specs.Decoding.{decoded}
use Rattle.array.specs.Tables.{ArrayOrder}
use Rattle.opening.specs.declared.opened.Opened.{Opened}
use Rattle.opening.specs.Agreement.{Agreed}

-- A torn place: no vector agreed with it, so no calls of an array left its words, and now all of its cells are blank.
pub record Torn (k : Arithmetic) (x : Coefficients) (p : ℕ) (s t : Table) : Type 0 where
  pub none : Agreed k x s p → ⊥
  pub gone : (b : ℕ) → b < s.bays → t.cell b p ≡ blank

-- any other place: its cells were kept, or went blank
abbrev pub KeptCells : ℕ → Table → Table → Type 0
KeptCells p s t = (b : ℕ) → b < s.bays → Kept (s.cell b p) (t.cell b p)

-- One place that is opened: it is torn, or kept with a vector that agrees. No other place is touched.
pub record PlaceOpened (k : Arithmetic) (x : Coefficients) (p : ℕ) (s t : Table) (torn : Bool) : Type 0 where
  pub rest : Decayed (ThisPlace p) s t
  pub place : MatchBool torn (Torn k x p s t) (KeptCells p s t × Agreed k x t p)

abbrev pub OpensPlace : {Self : Type 0} → (Self → Table) → (Self → Type 0) → Arithmetic → Coefficients → ℕ → Self → Self → Bool → Type 0
OpensPlace table sound k x p before after torn =
    SameShape (table before) (table after)
    × (sound before → p < (decoded k x (table before)).places → sound after × PlaceOpened k x p (table before) (table after) torn)

-- All places: each is torn where its mark is set, and any other is kept. Bays only stop.
pub record PlacesOpened (k : Arithmetic) (x : Coefficients) (s t : Table) (torn : List Bool) : Type 0 where
  pub places : (p : ℕ) → p < s.places → MatchBool (slice_index_or torn p false) (Torn k x p s t) (KeptCells p s t)
  pub stops : (b : ℕ) → b < s.bays → t.running b ≡ true → s.running b ≡ true

-- The array has the plan and the shelf below, whose shape stays, and a mark for each of its places. From a shelf below in order it is in
-- order.
abbrev pub Opens : {S P : Type 0} → (S → Table) → (S → Type 0) → Arithmetic → (P → Coefficients) → S → P → Opened S P → Type 0
Opens table sound k coefficients below plan opened =
    (opened.array.plan ≡ plan) × SameShape (table below) (table opened.array.below) × (length opened.torn.items ≡ (decoded k (coefficients plan) (table below)).places)
    × (sound below → ArrayOrder table sound k coefficients opened.array × PlacesOpened k (coefficients plan) (table below) (table opened.array.below) opened.torn.items)
