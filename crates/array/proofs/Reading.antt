-- A read of an array: s is the table below before, t the table below after.
use Rattle.std.proofs.Common.{◌≡◌, ℕ, ◌<◌, None, Ok, Err, Result, refl, arith}
use Rattle.std.specs.Prelude.{⊤}
use Rattle.field.specs.Arithmetic.{Arithmetic, Lawful}
use Rattle.plan.specs.Coefficients.{Coefficients}
use Rattle.plan.specs.Rows.{row, dot}
use Rattle.shelf.specs.declared.refusal.Refusal.{Refusal}
use Rattle.shelf.specs.Table.{Table}
use Rattle.shelf.specs.Calls.{Read, ReadAnswer, NoCell, refuses_read}
use Rattle.shelf.proofs.Words.{cell_fit}
use Rattle.array.specs.declared.coded.Array.{Array}
use Rattle.array.specs.Decoding.{decoded, InOrder}
use Rattle.array.specs.Finding.{WordAnswer, Found, Finds}
use Rattle.array.specs.Tables.{array_table, ArrayOrder, ArrayOutcome, Beneath}
use Rattle.array.specs.Changes.{ReadBelow}
use Rattle.array.proofs.Cells.{one_holds, more_blank}
use Rattle.array.proofs.Shapes.{fits_place}
use Rattle.array.proofs.Decays.{all_decayed}
use Rattle.array.proofs.Promising.{array_after, promised, beneath}

module _ (k : Arithmetic) (l : Lawful k) (x : Coefficients) (s t : Table) (j p : ℕ) where
  -- A word that the cells tell is the array's, and a lost one is of a blank cell.
  answers : j < x.n → InOrder k x s → InOrder k x t → p < (decoded k x s).places → p < (decoded k x t).places → (r : Result ℕ Refusal) → WordAnswer k x j p s t r → ReadAnswer ((decoded k x s).cell j p) ((decoded k x t).cell j p) r
  answers d before after here there (Ok w) one =
      let (v, h) = before p here in
      let is = one (dot k (row x j) v) (v, h, refl) in
      one_holds k l x s p j d w ((v, h, is), one)
  answers d before after here there (Err e) lost =
      let (v, h) = after p there in
      (lost.0, more_blank k l x t p j d (lost.1 (dot k (row x j) v) (v, h, refl)))

  pub reads : j < (decoded k x s).bays → p < (decoded k x s).places → InOrder k x s → (r : Result ℕ Refusal) → Found k x j p s t r → InOrder k x t × Read j p (decoded k x s) (decoded k x t) r
  reads d there ordered r h =
      let f = fits_place k x s p there in
      let (rest, after) = all_decayed k l x NoCell s t h.rest ordered in
      let there' : p < (decoded k x t).places = (let e = rest.shape.places in omega arith) in
      (after, record { rest = rest; answer = answers (let e = f.own_bays in omega arith) ordered after there there' r h.answer })

module _ {S P : Type 0} (table : S → Table) (sound : S → Type 0) (k : Arithmetic) (l : Lawful k) (coefficients : P → Coefficients) (before : Array S P) (j p : ℕ) (below : S) (r : Result ℕ Refusal) where
  abbrev x : Coefficients
  x = coefficients before.plan

  module _ (none : refuses_read j p (array_table table k coefficients before) ≡ None) (found : Finds table sound k x j p before.below below ⊤ r) where
    there : (j < (array_table table k coefficients before).bays) × (p < (array_table table k coefficients before).places)
    there = cell_fit _ _ j p none

    found_so : ArrayOrder table sound k coefficients before → sound below × Found k x j p (table before.below) (table below) r
    found_so (ordered, _) =
        let (d, here) = there in
        let f = fits_place k x (table before.below) p here in
        found.1 ordered f.match (let e = f.own_bays in let b = f.bays in omega arith) (let e = f.own_places in omega arith) tt

    pub read_promised : ArrayOutcome table sound k coefficients before (array_after table sound k coefficients before (refuses_read j p) none below) (refuses_read j p) (Read j p) r
    read_promised =
        promised table sound k coefficients before (refuses_read j p) none below (Read j p) r found.0
        (λ ordered. (found_so ordered).0)
        (λ ordered. reads k l x (table before.below) (table below) j p there.0 there.1 ordered.1 r (found_so ordered).1)

    pub read_below : Beneath table sound k coefficients before (array_after table sound k coefficients before (refuses_read j p) none below) (refuses_read j p) ReadBelow
    read_below = beneath table sound k coefficients before (refuses_read j p) none below ReadBelow (λ ordered. (found_so ordered).1.rest)
