-- What a run of calls promises.
use Rattle.std.specs.Prelude.{◌≡◌, ℕ, ◌<◌, not, ◌==◌, List, [], ◌∷◌, length, Some, None, Ok, Err, Option, Result}
use Rattle.field.specs.Arithmetic.{Arithmetic}
use Rattle.plan.specs.Coefficients.{Coefficients}
use Rattle.shelf.specs.declared.refusal.Refusal.{Refusal}
use Rattle.shelf.specs.declared.refusal.Refusal.TheVariants.{WrongCount}
use Rattle.shelf.specs.Refusals.{first_of}
use Rattle.shelf.specs.Table.{Table, holds, AllBlank}
use Rattle.array.specs.declared.coded.Array.{Array}
use Rattle.array.specs.Tables.{array_table, ArrayOrder}
use Rattle.history.specs.declared.call.Call.{Call}
use Rattle.history.specs.declared.call.Service.{Service}
use Rattle.history.specs.declared.call.Answer.{Answer}
use Rattle.history.specs.Book.{Book, empty, enter, enter_service, after_calls}
use Rattle.history.specs.History.{ShelfHistory, ArrayHistory, ServiceHistory}

-- why a run is refused: its answers are not as many as its calls
abbrev pub run_refusal : {C : Type 0} → List C → List Answer → Option Refusal
run_refusal calls answers = first_of ((not (length calls == length answers), WrongCount) ∷ [])

-- A refused run changes neither the shelf nor the answers. Any other makes all of its calls.
abbrev pub Ran : {Self : Type 0} → Option Refusal → Self → Self → List Answer → List Answer → Result Unit Refusal → Type 0 → Type 0
Ran (Some e) before after answers answers' r made = (r ≡ Err e) × (after ≡ before) × (answers' ≡ answers)
Ran None before after answers answers' r made = (r ≡ Ok tt) × made

-- The book backs a table: each filled cell's word is in it.
abbrev pub Backed : Book → Table → Type 0
Backed book t = (b p w : ℕ) → b < t.bays → p < t.places → t.cell b p ≡ holds w → book b p ≡ Some w

-- a shelf in order, with a book that backs it
abbrev pub Stands : {Self : Type 0} → (Self → Table) → (Self → Type 0) → Book → Self → Type 0
Stands table sound book a = sound a × Backed book (table a)

-- From any such state and book, the calls of a run and their answers are a history, and the state and the book after them are such again.
-- A shelf in order with every cell blank is such, with the empty book.
abbrev pub RunsShelf : {Self : Type 0} → (Self → Table) → (Self → Type 0) → Self → Self → List Call → List Answer → List Answer → Result Unit Refusal → Type 0
RunsShelf table sound before after calls answers answers' r =
    Ran (run_refusal calls answers) before after answers answers' r
    ((book : Book) → Stands table sound book before → ShelfHistory table book before calls answers' after × Stands table sound (after_calls enter book calls answers') after)

module _ {S P : Type 0} (table : S → Table) (sound : S → Type 0) (k : Arithmetic) (coefficients : P → Coefficients) (before after : Array S P) where
  -- an array in order, with a book that backs it
  abbrev ArrayStands : Book → Array S P → Type 0
  ArrayStands book a = Stands (array_table table k coefficients) (ArrayOrder table sound k coefficients) book a

  -- Of an array, where `feed` enters its calls in the book and Made says of calls and answers that they are a history from a book.
  module _ {C : Type 0} (feed : C → Answer → Book → Book) (Made : Book → List C → List Answer → Type 0) where
    -- From any array in order and book that backs it, as of a shelf; and the plan stays.
    abbrev RunsOn : List C → List Answer → List Answer → Result Unit Refusal → Type 0
    RunsOn calls answers answers' r =
        Ran (run_refusal calls answers) before after answers answers' r
        ((after.plan ≡ before.plan)
        × ((book : Book) → ArrayStands book before → Made book calls answers' × ArrayStands (after_calls feed book calls answers') after))

    -- From a new array, over a shelf in order whose cells are all blank: its calls and their answers are a history from the empty book.
    abbrev RunsFrom : List C → List Answer → Result Unit Refusal → Type 0
    RunsFrom calls answers' r = r ≡ Ok tt → sound before.below → AllBlank (table before.below) → Made empty calls answers'

  -- over any shelf
  abbrev pub RunsArray : List Call → List Answer → List Answer → Result Unit Refusal → Type 0
  RunsArray calls answers answers' r = RunsOn enter (λ book cs told. ArrayHistory table k (coefficients before.plan) book before cs told after) calls answers answers' r

  abbrev pub RunsNew : List Call → List Answer → Result Unit Refusal → Type 0
  RunsNew calls answers' r = RunsFrom enter (λ book cs told. ArrayHistory table k (coefficients before.plan) book before cs told after) calls answers' r

  -- over a serviceable one, with mends and exchanges among the calls
  abbrev pub RunsService : List Service → List Answer → List Answer → Result Unit Refusal → Type 0
  RunsService calls answers answers' r = RunsOn enter_service (λ book cs told. ServiceHistory table k (coefficients before.plan) book before cs told after) calls answers answers' r

  abbrev pub RunsServiceNew : List Service → List Answer → Result Unit Refusal → Type 0
  RunsServiceNew calls answers' r = RunsFrom enter_service (λ book cs told. ServiceHistory table k (coefficients before.plan) book before cs told after) calls answers' r
