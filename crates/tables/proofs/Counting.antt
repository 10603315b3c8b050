-- How one more row is counted in the totals of columns.
use Rattle.std.proofs.Common.{◌≡◌, ℕ, ◌<◌, List, [], ◌++◌, length, replicate, Some, None, Option, sym, ap, ◌∙◌, arith}
use Rattle.std.specs.List.{slice_get}
use Rattle.std.specs.Option.{option_to_list}
use Rattle.std.proofs.lemmas.List.{append-nil, flat_map_more, length-replicate, get_or-replicate}
use Rattle.tables.specs.declared.cell.Cell.{Cell}
use Rattle.tables.specs.Sums.{total}
use Rattle.tables.specs.Columns.{column_at, cells_at, counted, Starts, Adds}
use Rattle.tables.proofs.Adding.{total_push}

-- no rows have no cells, whose total is 0
pub starts : (n : ℕ) → Starts n (replicate n (Some 0))
starts n = record {
  columns = length-replicate n (Some 0);
  totals = λ j h. get_or-replicate n j (Some 0) None (let e = length-replicate {A = Option ℕ} n (Some 0) in omega arith);
}

-- a total goes on by a cell, if there is one
total_counted : (cs : List Cell) (o : Option Cell) → total (cs ++ option_to_list o) ≡ counted (total cs) o
total_counted cs None = ap total (append-nil cs)
total_counted cs (Some c) = total_push cs c

-- so where each column counts its cell of a row, its total is that of one row more
pub adds : (row : List Cell) (before after : List (Option ℕ)) → length after ≡ length before → ((j : ℕ) → j < length before → column_at after j ≡ counted (column_at before j) (slice_get row j)) → Adds row before after
adds row before after long each = record {
  columns = long;
  each = each;
  totals = λ rows are j h.
      let l : j < length before = omega arith in
      each j l
      ∙ (ap (λ s. counted s (slice_get row j)) (are j l)
      ∙ (sym (total_counted (cells_at j rows) (slice_get row j)) ∙ ap total (flat_map_more (λ (r : List Cell). option_to_list (slice_get r j)) [] rows row)));
}
