-- What one call of a history promises, before the book is asked.
use Rattle.std.specs.Prelude.{vec_items}
use Rattle.field.specs.Arithmetic.{Arithmetic}
use Rattle.plan.specs.Coefficients.{Coefficients}
use Rattle.shelf.specs.Table.{Table}
use Rattle.shelf.specs.Calls.{Outcome, refuses_read, refuses_word, refuses_lay, Written, LayAnswer}
use Rattle.shelf.specs.Calls.{Read as Reads}
use Rattle.array.specs.declared.coded.Array.{Array}
use Rattle.array.specs.Tables.{array_table, ArrayOrder, Beneath}
use Rattle.array.specs.Changes.{ReadBelow, WriteBelow, LayBelow}
use Rattle.array.specs.Service.{refuses_mend, refuses_fresh, Mends, Freshens, Serves}
use Rattle.history.specs.declared.call.Call.{Call}
use Rattle.history.specs.declared.call.Call.TheVariants.{Read, Write, Lay}
use Rattle.history.specs.declared.call.Service.{Service}
use Rattle.history.specs.declared.call.Service.TheVariants.{Plain, Mend, Exchange}
use Rattle.history.specs.declared.call.Answer.{Answer}
use Rattle.history.specs.Kinds.{OfRead, OfDone, OfLay, OfMend}

-- what the shelf promises of the call
abbrev pub ShelfTurn : {Self : Type 0} → (Self → Table) → (Self → Type 0) → Self → Self → Call → Answer → Type 0
ShelfTurn table sound before after (Read b p) a = OfRead (Outcome table sound before after (refuses_read b p) (Reads b p)) a
ShelfTurn table sound before after (Write b p w) a = OfDone (Outcome table sound before after (refuses_word b p w) (Written b p w)) a
ShelfTurn table sound before after (Lay p ws) a = OfLay (Outcome table sound before after (refuses_lay p (vec_items ws)) (LayAnswer p (vec_items ws))) a

module _ {S P : Type 0} (table : S → Table) (sound : S → Type 0) (k : Arithmetic) (coefficients : P → Coefficients) (before after : Array S P) where
  -- what the array promises of the cells below
  abbrev pub TurnBelow : Call → Answer → Type 0
  TurnBelow (Read b p) a = OfRead (λ r. Beneath table sound k coefficients before after (refuses_read b p) ReadBelow) a
  TurnBelow (Write b p w) a = OfDone (λ r. Beneath table sound k coefficients before after (refuses_word b p w) (WriteBelow b p w r)) a
  TurnBelow (Lay p ws) a = OfLay (λ r. Beneath table sound k coefficients before after (refuses_lay p (vec_items ws)) (LayBelow p (vec_items ws) r)) a

  -- both together
  abbrev pub ArrayTurn : Call → Answer → Type 0
  ArrayTurn c a = ShelfTurn (array_table table k coefficients) (ArrayOrder table sound k coefficients) before after c a × TurnBelow c a

  -- One call of an array that is serviced.
  abbrev pub ServiceTurn : Service → Answer → Type 0
  ServiceTurn (Plain c) a = ArrayTurn c a
  ServiceTurn (Mend b p) a = OfMend (Serves table sound k coefficients before after (refuses_mend b p) (Mends b p)) a
  ServiceTurn (Exchange b) a = OfDone (Serves table sound k coefficients before after (refuses_fresh b) (Freshens b)) a
