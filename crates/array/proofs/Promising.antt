-- From what a call does below to what it promises of the array, and of the shelf below.
use Rattle.std.proofs.Common.{◌≡◌, None, Option, Result, refl, sym, subst}
use Rattle.field.specs.Arithmetic.{Arithmetic}
use Rattle.plan.specs.Coefficients.{Coefficients}
use Rattle.shelf.specs.declared.refusal.Refusal.{Refusal}
use Rattle.shelf.specs.Table.{Table, SameShape}
use Rattle.shelf.proofs.Settling.{done}
use Rattle.array.specs.declared.coded.Array.{Array}
use Rattle.array.specs.Decoding.{decoded, InOrder}
use Rattle.array.specs.Tables.{array_table, ArrayOrder, ArrayOutcome, DoneBelow, Beneath}
use Rattle.array.proofs.Shapes.{array_shape}

module _ {S P : Type 0} (table : S → Table) (sound : S → Type 0) (k : Arithmetic) (coefficients : P → Coefficients) (before : Array S P) (refusal : Table → Option Refusal) (none : refusal (array_table table k coefficients before) ≡ None) (below : S) where
  abbrev x : Coefficients
  x = coefficients before.plan

  abbrev s : Table
  s = table before.below

  abbrev t : Table
  t = table below

  -- the array after a call that changed the shelf below
  abbrev pub array_after : Array S P
  array_after = record { below = below; plan = before.plan }

  abbrev Ordered : Type 0
  Ordered = ArrayOrder table sound k coefficients before

  -- A call that is not refused leaves the array in order, and keeps its promise.
  pub promised : {A : Type 0} (promise : Table → Table → Result A Refusal → Type 0) (r : Result A Refusal) → SameShape s t → (Ordered → sound below) → (Ordered → InOrder k x t × promise (decoded k x s) (decoded k x t) r)
      → ArrayOutcome table sound k coefficients before array_after refusal promise r
  promised promise r same still keeps =
      done (array_table table k coefficients before) (array_table table k coefficients array_after) Ordered (ArrayOrder table sound k coefficients array_after) (refusal (array_table table k coefficients before)) promise r none
      (array_shape k x s t same)
      (λ ordered. let (order, kept) = keeps ordered in ((still ordered, order), kept))

  -- It makes its change below.
  pub beneath : (change : Arithmetic → Coefficients → Table → Table → Type 0) → (Ordered → change k x s t) → Beneath table sound k coefficients before array_after refusal change
  beneath change makes = (refl, subst (λ o. DoneBelow o before array_after (Ordered → change k x s t)) (sym none) makes)
