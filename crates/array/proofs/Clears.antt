-- A place of an array is cleared with the place below: s is the table below before, t the table below after.
use Rattle.std.proofs.Common.{◌≡◌, ℕ, ◌<◌, List, inl, inr, sym, subst, arith}
use Rattle.std.proofs.lemmas.Bool.{cases_eq}
use Rattle.field.specs.Arithmetic.{Arithmetic, Lawful}
use Rattle.plan.specs.Coefficients.{Coefficients}
use Rattle.shelf.specs.Table.{Table, blank}
use Rattle.shelf.specs.Calls.{ThisPlace, Cleared, Clears}
use Rattle.array.specs.declared.coded.Array.{Array}
use Rattle.array.specs.Decoding.{Agrees, decoded, InOrder}
use Rattle.array.specs.Tables.{array_table, ArrayOrder}
use Rattle.array.proofs.Decays.{cells_still, order_still, array_decayed}
use Rattle.array.proofs.Meaning.{place_agreed, place_blank}
use Rattle.array.proofs.Shapes.{fits_place, array_shape}

module _ (k : Arithmetic) (l : Lawful k) (x : Coefficients) (p : ℕ) (s t : Table) (h : Cleared p s t) where
  -- the cells of the place below are blank
  emptied : p < (decoded k x t).places → (b : ℕ) → b < t.bays → t.cell b p ≡ blank
  emptied there b d =
      let own = (fits_place k x t p there).own_places in
      let bays = h.rest.shape.bays in
      let places = h.rest.shape.places in
      h.gone b (omega arith) (omega arith)

  -- Any vector agrees with the place, and the other places stay in order.
  clear_order : InOrder k x s → InOrder k x t
  clear_order ordered p' there = elim (cases_eq p' p) [
    | inl same ↦
        let there' : p < (decoded k x t).places = omega arith in
        subst (λ p. (v : List ℕ) × Agrees k x t p v) (sym same) (place_agreed k l x t p there' (emptied there'))
    | inr away ↦ order_still k l x (ThisPlace p) (ThisPlace p) s t h.rest ordered p' (let e = (array_shape k x s t h.rest.shape).places in omega arith) (λ b e. away e)
  ]

  clears : InOrder k x s → Cleared p (decoded k x s) (decoded k x t)
  clears ordered =
      let same = array_shape k x s t h.rest.shape in
      record {
        rest = array_decayed k l x (ThisPlace p) (ThisPlace p) s t h.rest (λ j p' d there out. cells_still k l x (ThisPlace p) (ThisPlace p) s t h.rest ordered j p' d there (λ b e. out e));
        gone = λ j d there.
            let there' : p < (decoded k x t).places = (let e = same.places in omega arith) in
            place_blank k l x t p there' (emptied there') j (let e = same.bays in omega arith);
      }

-- So the array clears as the shelf below does.
pub array_clears : {S P : Type 0} (table : S → Table) (sound : S → Type 0) (k : Arithmetic) (l : Lawful k) (coefficients : P → Coefficients) (before : Array S P) (below : S) (p : ℕ)
    → Clears table sound p before.below below → Clears (array_table table k coefficients) (ArrayOrder table sound k coefficients) p before (record { below = below; plan = before.plan })
array_clears table sound k l coefficients before below p clear =
    let x = coefficients before.plan in
    let s = table before.below in
    let t = table below in (
      array_shape k x s t clear.0,
      λ (order, ordered).
          let (after, cleared) = clear.1 order in
          ((after, clear_order k l x p s t cleared ordered), clears k l x p s t cleared ordered),
    )
