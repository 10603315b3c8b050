-- The totals of the columns of a table.
use Rattle.std.specs.Prelude.{◌≡◌, ℕ, ◌<◌, List, [], ◌∷◌, ◌++◌, length, Some, None, Option, vec_items}
use Rattle.std.specs.List.{slice_get, slice_index_or, flat_map}
use Rattle.std.specs.Option.{option_to_list}
use Rattle.tables.specs.declared.cell.Cell.{Cell}
use Rattle.tables.specs.declared.columns.Totals.{Totals}
use Rattle.tables.specs.Cells.{told}
use Rattle.tables.specs.Sums.{plus, total}

abbrev pub sums_of : Totals → List (Option ℕ)
sums_of t = vec_items t.sums

-- the total of a column; there is none past the columns
abbrev pub column_at : List (Option ℕ) → ℕ → Option ℕ
column_at sums j = slice_index_or sums j None

-- the cells of a column of a table, row after row; a short row may have none
abbrev pub cells_at : ℕ → List (List Cell) → List Cell
cells_at j rows = flat_map (λ row. option_to_list (slice_get row j)) rows

-- these are the totals of the columns of these rows
abbrev pub TotalsOf : List (List Cell) → List (Option ℕ) → Type 0
TotalsOf rows sums = (j : ℕ) → j < length sums → column_at sums j ≡ total (cells_at j rows)

-- what is counted of a cell, if there is one
abbrev pub counted : Option ℕ → Option Cell → Option ℕ
counted sum None = sum
counted sum (Some c) = plus sum (told c)

-- the totals of so many columns of no rows
pub record Starts (n : ℕ) (sums : List (Option ℕ)) : Type 0 where
  pub columns : length sums ≡ n
  pub totals : TotalsOf [] sums

-- One more row is counted: each column's total goes on by that column's cell, so the totals are those of one row more.
pub record Adds (row : List Cell) (before after : List (Option ℕ)) : Type 0 where
  pub columns : length after ≡ length before
  pub each : (j : ℕ) → j < length before → column_at after j ≡ counted (column_at before j) (slice_get row j)
  pub totals : (rows : List (List Cell)) → TotalsOf rows before → TotalsOf (rows ++ row ∷ []) after
