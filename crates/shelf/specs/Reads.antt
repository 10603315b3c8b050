-- Runs of reads: what fetch and survey do and answer. `at k` is the bay and the place of the k-th cell of a run.
use Rattle.std.specs.Prelude.{◌≡◌, ℕ, ◌+◌, ◌*◌, ◌/◌, ◌%◌, ◌<◌, ◌≤◌, ◌≢◌, List, [], ◌∷◌, ◌++◌, length, take, drop, Some, None, Ok, Err, Option, Result, slice_index_or}
use Rattle.std.specs.Option.{unwrap_or}
use Rattle.shelf.specs.declared.refusal.Refusal.{Refusal}
use Rattle.shelf.specs.declared.refusal.Refusal.TheVariants.{Lost, ListTooShort}
use Rattle.shelf.specs.declared.lost.LostCell.{LostCell}
use Rattle.shelf.specs.Refusals.{fetch_refusal, run_refusal}
use Rattle.shelf.specs.Table.{Table, Decayed}
use Rattle.shelf.specs.Calls.{Outcome, Read, ReadAnswer, refuses_read, NoCell}

-- The reads of the cells k, k + 1, and so on, with these answers: each is a call of its own, from the state that the one before it left.
abbrev pub Reads : {Self : Type 0} → (Self → Table) → (Self → Type 0) → (ℕ → ℕ × ℕ) → ℕ → Self → List (Result ℕ Refusal) → Self → Type 0
Reads table sound at k before [] after = after ≡ before
Reads {Self} table sound at k before (r ∷ rs) after =
    (next : Self) × Outcome table sound before next (refuses_read (at k).0 (at k).1) (Read (at k).0 (at k).1) r × Reads table sound at (k + 1) next rs after

-- What the answers say of the tables before and after all of the reads: each is the word that its cell held at the start, or lost, and
-- that only where the cell is blank at the end; and otherwise cells only went blank.
pub record ReadAll (at : ℕ → ℕ × ℕ) (rs : List (Result ℕ Refusal)) (s t : Table) : Type 0 where
  pub rest : Decayed NoCell s t
  pub answers : (i : ℕ) → i < length rs → ReadAnswer (s.cell (at i).0 (at i).1) (t.cell (at i).0 (at i).1) (slice_index_or rs i (Err Lost))

-- a run of reads that were made, and what they say where the shelf was in order
abbrev pub Made : {Self : Type 0} → (Self → Table) → (Self → Type 0) → (ℕ → ℕ × ℕ) → Self → List (Result ℕ Refusal) → Self → Type 0
Made table sound at before rs after =
    Reads table sound at 0 before rs after
    × (sound before → sound after × ReadAll at rs (table before) (table after))

-- how many answers are words
abbrev pub words_in : List (Result ℕ Refusal) → ℕ
words_in [] = 0
words_in (Ok w ∷ rs) = 1 + words_in rs
words_in (Err e ∷ rs) = words_in rs

-- the word of an answer, and its mark: 1 for a word, 0 for none
abbrev pub word_of : Result ℕ Refusal → Option ℕ
word_of (Ok w) = Some w
word_of (Err e) = None

abbrev pub mark_of : Result ℕ Refusal → Option ℕ
mark_of (Ok w) = Some 1
mark_of (Err e) = Some 0

-- a buffer with what the answers give put over its elements, from the first on; an element is untouched where they give nothing
abbrev pub over : (Result ℕ Refusal → Option ℕ) → List (Result ℕ Refusal) → List ℕ → List ℕ
over f [] xs = xs
over f (r ∷ rs) [] = []
over f (r ∷ rs) (x ∷ xs) = unwrap_or (f r) x ∷ over f rs xs

-- the cells of a fetch: one bay, place after place
abbrev pub along : ℕ → ℕ → ℕ → ℕ × ℕ
along bay first k = (bay, first + k)

-- Fetch: a refused one changes nothing. Any other reads each place of the run, puts each word that comes into its slot and its mark
-- into the marks, and answers how many words came.
abbrev pub Fetched : {Self : Type 0} → (Self → Table) → (Self → Type 0) → Self → Self → ℕ → ℕ → List ℕ → List ℕ → List ℕ → List ℕ → Option Refusal → Result ℕ Refusal → Type 0
Fetched table sound before after bay first words words' marks marks' (Some e) r =
    (r ≡ Err e) × (after ≡ before) × (words' ≡ words) × (marks' ≡ marks)
Fetched table sound before after bay first words words' marks marks' None r =
    (rs : List (Result ℕ Refusal)) × (length rs ≡ length words) × Made table sound (along bay first) before rs after
    × (words' ≡ over word_of rs words) × (marks' ≡ over mark_of rs marks) × (r ≡ Ok (words_in rs))

abbrev pub Fetches : {Self : Type 0} → (Self → Table) → (Self → Type 0) → Self → Self → ℕ → ℕ → List ℕ → List ℕ → List ℕ → List ℕ → Result ℕ Refusal → Type 0
Fetches table sound before after bay first words words' marks marks' r =
    Fetched table sound before after bay first words words' marks marks' (fetch_refusal (table before).bays (table before).places bay first (length words) (length marks)) r

-- the cells of a survey: bay after bay, and then the next place
abbrev pub across : ℕ → ℕ → ℕ → ℕ × ℕ
across bays first k = (k % bays, first + k / bays)

-- the cells that gave no word, from the k-th on
abbrev pub lost_cells : (ℕ → ℕ × ℕ) → ℕ → List (Result ℕ Refusal) → List LostCell
lost_cells at k [] = []
lost_cells at k (Ok w ∷ rs) = lost_cells at (k + 1) rs
lost_cells at k (Err e ∷ rs) = record { bay = (at k).0; place = (at k).1 } ∷ lost_cells at (k + 1) rs

-- no cell is named twice
abbrev pub Distinct : List LostCell → Type 0
Distinct cells = (i j : ℕ) (d : LostCell) → i < j → j < length cells → slice_index_or cells i d ≢ slice_index_or cells j d

-- Where all lost cells found room, they stand first in the list, the rest of it is untouched, and their number is the answer. Where one
-- found none, the list is full of the others.
abbrev pub Listed : List LostCell → ℕ → ℕ → List LostCell → List LostCell → Result ℕ Refusal → Type 0
Listed lost read cells list list' (Ok n) = (read ≡ cells) × (n ≡ length lost) × (n ≤ length list) × (list' ≡ lost ++ drop n list)
Listed lost read cells list list' (Err e) = (e ≡ ListTooShort) × (read ≤ cells) × (length lost ≡ length list + 1) × (list' ≡ take (length list) lost)

-- Survey: one refused for its run changes nothing. Any other reads cell after cell, and lists those that are lost, each once.
abbrev pub Surveyed : {Self : Type 0} → (Self → Table) → (Self → Type 0) → Self → Self → ℕ → ℕ → List LostCell → List LostCell → Option Refusal → Result ℕ Refusal → Type 0
Surveyed table sound before after first count list list' (Some e) r = (r ≡ Err e) × (after ≡ before) × (list' ≡ list)
Surveyed table sound before after first count list list' None r =
    (rs : List (Result ℕ Refusal)) × Made table sound (across (table before).bays first) before rs after
    × Distinct (lost_cells (across (table before).bays first) 0 rs)
    × Listed (lost_cells (across (table before).bays first) 0 rs) (length rs) (count * (table before).bays) list list' r

abbrev pub Surveys : {Self : Type 0} → (Self → Table) → (Self → Type 0) → Self → Self → ℕ → ℕ → List LostCell → List LostCell → Result ℕ Refusal → Type 0
Surveys table sound before after first count list list' r =
    Surveyed table sound before after first count list list' (run_refusal (table before).places first count) r
