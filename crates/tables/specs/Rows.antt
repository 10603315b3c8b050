-- What a line of a table means.
use Rattle.std.specs.Prelude.{◌≡◌, ◌⊎◌, ℕ, ◌+◌, ◌^◌, ◌<◌, cond, List, [], ◌∷◌, length, Some, None, Ok, Err, Option, Result, vec_items, All}
use Rattle.std.specs.Option.{option_map}
use Rattle.tables.specs.declared.row.Row.{Row}
use Rattle.tables.specs.declared.row.RowFault.{RowFault}
use Rattle.tables.specs.declared.row.RowFault.TheVariants.{NotANumber, NoWords, Memory}
use Rattle.tables.specs.Fields.{fields, field_number, heading, empty}
use Rattle.tables.specs.Texts.{row_text}

-- goes on with a value, and stops at a fault
abbrev pub following : {X Y : Type 0} → Result X RowFault → (X → Result Y RowFault) → Result Y RowFault
following (Ok x) next = next x
following (Err e) next = Err e

-- the answer is the value that is due, as f sees it, or the fault that is due; only want of memory may come instead
abbrev pub Answers : {X Y : Type 0} → (X → Y) → Result Y RowFault → Result X RowFault → Type 0
Answers f due (Ok x) = due ≡ Ok (f x)
Answers f due (Err e) = (e ≡ Memory) ⊎ (due ≡ Err e)

-- the number of the i-th field
abbrev pub number_at : ℕ → Option ℕ → Result ℕ RowFault
number_at i None = Err (NotANumber i)
number_at i (Some n) = Ok n

-- the numbers of all these fields, from the i-th of the line on, or the position of the first that is none
abbrev pub words_from : ℕ → List (List ℕ) → Result (List ℕ) RowFault
words_from i [] = Ok []
words_from i (f ∷ fs) = following (number_at i (field_number f)) (λ n. following (words_from (i + 1) fs) (λ ns. Ok (n ∷ ns)))

-- a place and its words, of which there is one at least
abbrev pub with_words : ℕ → List ℕ → Result (ℕ × List ℕ) RowFault
with_words place [] = Err NoWords
with_words place (w ∷ ws) = Ok (place, w ∷ ws)

-- the row of a line's first field and those after it
abbrev pub row_after : List ℕ → List (List ℕ) → Result (ℕ × List ℕ) RowFault
row_after f fs = following (number_at 1 (field_number f)) (λ place. following (words_from 2 fs) (λ ws. with_words place ws))

-- a heading gives no row
abbrev pub row_of_fields : List (List ℕ) → Result (Option (ℕ × List ℕ)) RowFault
row_of_fields [] = Ok None
row_of_fields (f ∷ fs) = cond (heading f) (Ok None) (following (row_after f fs) (λ r. Ok (Some r)))

-- what a line gives; an empty one gives no row
abbrev pub row_line : List ℕ → Result (Option (ℕ × List ℕ)) RowFault
row_line line = cond (empty line) (Ok None) (row_of_fields (fields line))

-- a row's place and words
abbrev pub row_meant : Row → ℕ × List ℕ
row_meant r = (r.place, vec_items r.words)

-- the answer is what the line gives; only want of memory may come instead
abbrev pub ReadsRow : List ℕ → Result (Option Row) RowFault → Type 0
ReadsRow line r = Answers (option_map row_meant) (row_line line) r

-- where the line is what is printed of a place and words, it gives these; only want of memory may come instead
abbrev pub ReadsBack : List ℕ → Result (Option Row) RowFault → Type 0
ReadsBack line r =
    (place : ℕ) (words : List ℕ) → place < 2 ^ 32 → All (λ w. w < 2 ^ 32) words → 0 < length words → line ≡ row_text place words → Answers (option_map row_meant) (Ok (Some (place, words))) r
