-- A worked history: that the law of a run leaves room for kept writes, for words that only other cells tell, and for lost ones.
use Rattle.std.specs.Prelude.{◌≡◌, ℕ, true, List, [], ◌∷◌, length, Ok, Err, slice_index_or, vec_items}
use Rattle.std.specs.Global.{Vec}
use Rattle.field.specs.Fields.{nibble}
use Rattle.plan.specs.Coefficients.{Coefficients}
use Rattle.plan.specs.Powers.{powers}
use Rattle.shelf.specs.declared.refusal.Refusal.TheVariants.{Lost}
use Rattle.shelf.specs.Table.{Table, Cell, blank, holds, Fitting, AllBlank}
use Rattle.array.specs.declared.coded.Array.{Array}
use Rattle.history.specs.declared.call.Call.{Call}
use Rattle.history.specs.declared.call.Call.TheVariants.{Read, Write, Lay}
use Rattle.history.specs.declared.call.Answer.{Answer}
use Rattle.history.specs.declared.call.Answer.TheVariants.{Word, Done, Bits}
use Rattle.history.specs.Runs.{RunsArray, RunsNew}

-- Three bays of one place, with these cells. All run: a cell may go blank on a bay that runs.
abbrev pub cells : List Cell → Table
cells cs = record { bays = 3; places = 1; limit = 16; cell = λ b p. slice_index_or cs b blank; running = λ b. true }

-- the plan of powers over the nibble field, with two data bays and one check bay
abbrev pub sums : Coefficients
sums = powers nibble 2 1

-- an array over the cells, by this plan
abbrev pub archive : List Cell → Array Table Coefficients
archive cs = record { below = cells cs; plan = sums }

-- The run goes from a new array, whose cells below are blank, to one with the check alone left, so that both words are lost.
abbrev pub blanked : Array Table Coefficients
blanked = archive (blank ∷ blank ∷ blank ∷ [])

abbrev pub reduced : Array Table Coefficients
reduced = archive (blank ∷ blank ∷ holds 8 ∷ [])

-- The words are laid, one of them is written anew and kept, the other is read, and then the new one is lost.
abbrev pub WorkedCalls : Vec ℕ → List Call → Type 0
WorkedCalls words calls = (vec_items words ≡ 4 ∷ 9 ∷ []) × (calls ≡ Lay 0 words ∷ Write 0 0 1 ∷ Read 1 0 ∷ Read 0 0 ∷ [])

abbrev pub worked_answers : List Answer
worked_answers = Bits (Ok 3) ∷ Done (Ok tt) ∷ Word (Ok 9) ∷ Word (Err Lost) ∷ []

-- What a run promises holds of these calls and answers: from a new array, of which the premises hold too, since the shelf below is in
-- order and all of its cells are blank; and from any book. The states below are here the tables themselves, of which those that keep the
-- bounds of a shelf are in order.
abbrev pub Worked : List Call → Type 0
Worked calls =
    ((words : Vec ℕ) × WorkedCalls words calls) × Fitting blanked.below × AllBlank blanked.below × RunsNew (λ t. t) Fitting nibble (λ x. x) blanked reduced calls worked_answers (Ok tt)
    × ((answers : List Answer) → length answers ≡ 4 → RunsArray (λ t. t) Fitting nibble (λ x. x) blanked reduced calls answers worked_answers (Ok tt))
