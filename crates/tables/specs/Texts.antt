-- What is printed.
use Rattle.std.specs.Prelude.{ℕ, List, ◌++◌, Some, None, Option, codes, decimal}
use Rattle.std.specs.List.{flat_map}
use Rattle.tables.specs.declared.cell.Cell.{Cell}
use Rattle.tables.specs.declared.cell.Cell.TheVariants.{Told, Lost, Torn}
use Rattle.tables.specs.declared.row.RowFault.{RowFault}
use Rattle.tables.specs.declared.row.RowFault.TheVariants.{NotANumber, NoWords, Memory}
use Rattle.tables.specs.Sums.{total}

abbrev pub cell_text : Cell → List ℕ
cell_text (Told w) = decimal w
cell_text Lost = codes "lost"
cell_text Torn = codes "torn"

abbrev pub total_text : Option ℕ → List ℕ
total_text (Some n) = decimal n
total_text None = codes "not told"

-- texts, each after a comma
abbrev pub after_commas : {X : Type 0} → (X → List ℕ) → List X → List ℕ
after_commas text xs = flat_map (λ x. codes "," ++ text x) xs

-- a place and its words
abbrev pub row_text : ℕ → List ℕ → List ℕ
row_text place words = decimal place ++ after_commas decimal words

-- a place, its cells and their total
abbrev pub line_text : ℕ → List Cell → List ℕ
line_text place cells = (decimal place ++ after_commas cell_text cells) ++ (codes "," ++ total_text (total cells))

-- why a line gives no row
abbrev pub fault_text : RowFault → List ℕ
fault_text (NotANumber field) = codes "field " ++ (decimal field ++ codes " is not a number below 4294967296")
fault_text NoWords = codes "a place with no words"
fault_text Memory = codes "out of memory"
