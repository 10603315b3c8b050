-- What each call of a shelf promises: s is the table before the call, t the table after it, r the answer.
use Rattle.std.specs.Prelude.{◌≡◌, ℕ, ◌/◌, ◌%◌, ◌^◌, ◌<◌, Bool, true, false, ◌≢◌, ◌⊎◌, List, Some, None, Ok, Err, Option, Result, ◌==◌, slice_index}
use Rattle.shelf.specs.declared.refusal.Refusal.{Refusal}
use Rattle.shelf.specs.declared.refusal.Refusal.TheVariants.{Lost}
use Rattle.shelf.specs.Refusals.{bay_refusal, cell_refusal, word_refusal, lay_refusal}
use Rattle.shelf.specs.Table.{Table, Cell, blank, holds, SameShape, Unchanged, Decayed}

-- What a call keeps between the tables before and after it, where `refusal` is why it is refused, if it is. A refused call answers the
-- refusal and changes nothing. Any other call, on a state in order, leaves the state in order and keeps its promise.
abbrev pub Settled : {A : Type 0} → Table → Table → Type 0 → Type 0 → Option Refusal → (Table → Table → Result A Refusal → Type 0) → Result A Refusal → Type 0
Settled s t sound_before sound_after (Some e) promise r = (r ≡ Err e) × Unchanged s t × (sound_before → sound_after)
Settled s t sound_before sound_after None promise r = sound_before → sound_after × promise s t r

-- The same between two states of a shelf. Its shape never changes, in order or not.
abbrev pub Outcome : {A Self : Type 0} → (Self → Table) → (Self → Type 0) → Self → Self → (Table → Option Refusal) → (Table → Table → Result A Refusal → Type 0) → Result A Refusal → Type 0
Outcome table sound before after refusal promise r =
    SameShape (table before) (table after)
    × Settled (table before) (table after) (sound before) (sound after) (refusal (table before)) promise r

-- why each call is refused, whatever the cells hold
abbrev pub refuses_read : ℕ → ℕ → Table → Option Refusal
refuses_read b p s = cell_refusal s.bays s.places b p

-- a write or a patch
abbrev pub refuses_word : ℕ → ℕ → ℕ → Table → Option Refusal
refuses_word b p w s = word_refusal s.bays s.places s.limit b p w

abbrev pub refuses_lay : ℕ → List ℕ → Table → Option Refusal
refuses_lay p ws s = lay_refusal s.bays s.places s.limit p ws

abbrev pub refuses_exchange : ℕ → Table → Option Refusal
refuses_exchange b s = bay_refusal s.bays b

-- the cells that a call touches
abbrev pub NoCell : ℕ → ℕ → Type 0
NoCell b p = ⊥

abbrev pub ThisCell : ℕ → ℕ → ℕ → ℕ → Type 0
ThisCell b p b' p' = (b' ≡ b) × (p' ≡ p)

abbrev pub ThisPlace : ℕ → ℕ → ℕ → Type 0
ThisPlace p b' p' = p' ≡ p

-- a word that is set is there at the end, unless the cell went blank
abbrev pub Set : ℕ → Cell → Type 0
Set w after = (after ≡ holds w) ⊎ (after ≡ blank)

-- lost is answered only where the cell is blank at the end
abbrev pub LostOnlyBlank : Result Unit Refusal → Cell → Type 0
LostOnlyBlank r after = (r ≡ Ok tt) ⊎ ((r ≡ Err Lost) × (after ≡ blank))

-- Read: the word that the cell held at the start, or lost, and that only where the cell is blank at the end.
abbrev pub ReadAnswer : Cell → Cell → Result ℕ Refusal → Type 0
ReadAnswer before after (Ok w) = before ≡ holds w
ReadAnswer before after (Err e) = (e ≡ Lost) × (after ≡ blank)

pub record Read (b p : ℕ) (s t : Table) (r : Result ℕ Refusal) : Type 0 where
  pub rest : Decayed NoCell s t
  pub answer : ReadAnswer (s.cell b p) (t.cell b p) r

-- Write: a cell that is blank stays blank and is answered lost. Any other holds the new word or went blank.
abbrev pub WriteAnswer : ℕ → Cell → Cell → Result Unit Refusal → Type 0
WriteAnswer w blank after r = (r ≡ Err Lost) × (after ≡ blank)
WriteAnswer w (holds old) after r = Set w after × LostOnlyBlank r after

pub record Written (b p w : ℕ) (s t : Table) (r : Result Unit Refusal) : Type 0 where
  pub rest : Decayed (ThisCell b p) s t
  pub answer : WriteAnswer w (s.cell b p) (t.cell b p) r

-- bit b of a number
abbrev pub bit : ℕ → ℕ → Bool
bit bits b = bits / 2 ^ b % 2 == 1

-- Lay: each cell of the place holds its word or is blank, and is filled where its bay runs at the end. A bit is clear only where its
-- cell is blank, and bits past the last bay are 0.
pub record Laid (p : ℕ) (ws : List ℕ) (s t : Table) (bits : ℕ) : Type 0 where
  pub rest : Decayed (ThisPlace p) s t
  pub set : (b : ℕ) → b < s.bays → Set (slice_index ws b) (t.cell b p)
  pub filled : (b : ℕ) → b < s.bays → t.running b ≡ true → t.cell b p ≢ blank
  pub clear : (b : ℕ) → b < s.bays → bit bits b ≡ false → t.cell b p ≡ blank
  pub others : bits < 2 ^ s.bays

abbrev pub LayAnswer : ℕ → List ℕ → Table → Table → Result ℕ Refusal → Type 0
LayAnswer p ws s t (Ok bits) = Laid p ws s t bits
LayAnswer p ws s t (Err e) = ⊥

-- Patch: the cell, blank or filled before, holds the word or is blank, and is filled where its bay runs at the end.
pub record Patched (b p w : ℕ) (s t : Table) (r : Result Unit Refusal) : Type 0 where
  pub rest : Decayed (ThisCell b p) s t
  pub set : Set w (t.cell b p)
  pub filled : t.running b ≡ true → t.cell b p ≢ blank
  pub answer : LostOnlyBlank r (t.cell b p)

-- Exchange: a fresh device, whose cells are all blank, and which may run again. The other bays only decay.
pub record Exchanged (b : ℕ) (s t : Table) (r : Result Unit Refusal) : Type 0 where
  pub done : r ≡ Ok tt
  pub shape : SameShape s t
  pub fresh : (p : ℕ) → p < s.places → t.cell b p ≡ blank
  pub cells : (b' p : ℕ) → b' < s.bays → p < s.places → b' ≢ b → (t.cell b' p ≡ s.cell b' p) ⊎ (t.cell b' p ≡ blank)
  pub stops : (b' : ℕ) → b' < s.bays → b' ≢ b → t.running b' ≡ true → s.running b' ≡ true

-- Clear: every cell of the place is blank. The other cells only decay.
pub record Cleared (p : ℕ) (s t : Table) : Type 0 where
  pub rest : Decayed (ThisPlace p) s t
  pub gone : (b : ℕ) → b < s.bays → p < s.places → t.cell b p ≡ blank

abbrev pub Clears : {Self : Type 0} → (Self → Table) → (Self → Type 0) → ℕ → Self → Self → Type 0
Clears table sound p before after = SameShape (table before) (table after) × (sound before → sound after × Cleared p (table before) (table after))
