-- What some cells and lines mean.
use Rattle.std.proofs.Common.{◌≡◌, [], ◌∷◌, Some, None, Ok, Err, codes, refl}
use Rattle.tables.specs.declared.cell.Cell.TheVariants.{Told, Lost, Torn}
use Rattle.tables.specs.declared.row.RowFault.TheVariants.{NotANumber, NoWords}
use Rattle.tables.specs.Sums.{total}
use Rattle.tables.specs.Rows.{row_line}

three_told : total (Told 1 ∷ Told 2 ∷ Told 3 ∷ []) ≡ Some 6
three_told = refl

one_lost : total (Told 1 ∷ Lost ∷ Told 3 ∷ []) ≡ None
one_lost = refl

one_torn : total (Torn ∷ []) ≡ None
one_torn = refl

no_cells : total [] ≡ Some 0
no_cells = refl

two_words : row_line (codes " 7 , 1,002 ") ≡ Ok (Some (7, 1 ∷ 2 ∷ []))
two_words = refl

nothing : row_line (codes "  ") ≡ Ok None
nothing = refl

a_heading : row_line (codes "place,bay 0,bay 1") ≡ Ok None
a_heading = refl

place_alone : row_line (codes "7") ≡ Err NoWords
place_alone = refl

no_place : row_line (codes ",1") ≡ Err (NotANumber 1)
no_place = refl

empty_field : row_line (codes "7,1,") ≡ Err (NotANumber 3)
empty_field = refl

too_large : row_line (codes "7,4294967296") ≡ Err (NotANumber 2)
too_large = refl

two_in_a_field : row_line (codes "7,1 2") ≡ Err (NotANumber 2)
two_in_a_field = refl
