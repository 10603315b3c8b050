-- What a line asks of the program.
use Rattle.std.specs.Prelude.{ℕ, List, [], ◌∷◌, Some, None, Ok, Err, slice_index, Option, Result}
use Rattle.std.specs.Borrow.{Bor}
use Rattle.std.specs.Option.{option_map}
use Rattle.command.specs.Arguments.{exactly, counted, taking}
use Rattle.command.specs.Lines.{line_means, present}
use Rattle.command.specs.Outcome.{following, Answers}
use Rattle.command.specs.Reading.{token_then}
use Rattle.command.specs.declared.command.Fault.{Fault}
use Rattle.command.specs.declared.command.Fault.TheVariants.{TokenCount, UnknownCommand}
use Rattle.orders.specs.Verbs.{verb_of}
use Rattle.orders.specs.declared.order.Order.{Order}
use Rattle.orders.specs.declared.order.Order.TheVariants as order
use Rattle.orders.specs.declared.order.Run.{Run}
use Rattle.orders.specs.declared.order.Task.{Task}
use Rattle.orders.specs.declared.order.Task.TheVariants as task
use Rattle.orders.specs.declared.verb.Verb.{Verb}
use Rattle.orders.specs.declared.verb.Verb.TheVariants as verb

-- what is asked of an archive, with paths as lists of bytes; a run is its first place and how many there are
pub data Asked : Type 0 where
  create : Asked
  lay : Option (List ℕ) → Asked
  write : ℕ → ℕ → ℕ → Asked
  read : ℕ → ℕ → Asked
  print : Option (ℕ × ℕ) → Asked
  survey : Option (ℕ × ℕ) → Asked
  exchange : ℕ → Asked
  sweep : Option ℕ → Asked
  status : Asked
  verify : Asked
  put : List ℕ → Asked
  get : List ℕ → Asked

-- what is asked of the program
pub data Wanted : Type 0 where
  help : Option (List ℕ) → Wanted
  drill : Option (List ℕ) → Wanted
  script : Option (List ℕ) → Wanted
  on : List ℕ → Asked → Wanted

abbrev pub bytes_in : Bor (List ℕ) → List ℕ
bytes_in b = b.now

abbrev pub run_meant : Run → ℕ × ℕ
run_meant r = (r.first, r.count)

-- what a value of the program stands for
abbrev pub task_meant : Task → Asked
task_meant task.Create = create
task_meant (task.Lay path) = lay (option_map bytes_in path)
task_meant (task.Write bay place word) = write bay place word
task_meant (task.Read bay place) = read bay place
task_meant (task.Print run) = print (option_map run_meant run)
task_meant (task.Survey run) = survey (option_map run_meant run)
task_meant (task.Exchange bay) = exchange bay
task_meant (task.Sweep bay) = sweep bay
task_meant task.Status = status
task_meant task.Verify = verify
task_meant (task.Put path) = put (bytes_in path)
task_meant (task.Get path) = get (bytes_in path)

abbrev pub order_meant : Order → Wanted
order_meant (order.Help name) = help (option_map bytes_in name)
order_meant (order.Drill path) = drill (option_map bytes_in path)
order_meant (order.Script path) = script (option_map bytes_in path)
order_meant (order.On path t) = on (bytes_in path) (task_meant t)

-- one token and no more, or one at most
abbrev pub last : List (List ℕ) → Result (List ℕ) Fault
last [] = Err TokenCount
last (t ∷ []) = Ok t
last (t ∷ u ∷ us) = Err TokenCount

abbrev pub at_most_one : List (List ℕ) → Result (Option (List ℕ)) Fault
at_most_one [] = Ok None
at_most_one (t ∷ []) = Ok (Some t)
at_most_one (t ∷ u ∷ us) = Err TokenCount

-- no number, or two; none, or one
abbrev pub two_or_none : List ℕ → Result (Option (ℕ × ℕ)) Fault
two_or_none [] = Ok None
two_or_none (a ∷ []) = Err TokenCount
two_or_none (a ∷ b ∷ []) = Ok (Some (a, b))
two_or_none (a ∷ b ∷ c ∷ rest) = Err TokenCount

abbrev pub one_or_none : List ℕ → Result (Option ℕ) Fault
one_or_none [] = Ok None
one_or_none (a ∷ []) = Ok (Some a)
one_or_none (a ∷ b ∷ rest) = Err TokenCount

abbrev pub run_or_all : List (List ℕ) → Result (Option (ℕ × ℕ)) Fault
run_or_all ts = counted two_or_none 3 ts

abbrev pub one_or_all : List (List ℕ) → Result (Option ℕ) Fault
one_or_all ts = counted one_or_none 3 ts

-- what is made of what is read
abbrev pub making : {X Y : Type 0} → Result X Fault → (X → Y) → Result Y Fault
making due f = following due (λ x. Ok (f x))

-- a task without further tokens
abbrev pub alone : Asked → List (List ℕ) → Result Asked Fault
alone t ts = taking (exactly 0) 3 ts (λ n. t)

-- The task of a name, with these tokens after the archive. Numbers are read from left to right, and the first that is none is the
-- fault; where none is, it is a fault that there are too few or too many.
abbrev pub tasked : Verb → List (List ℕ) → Result Asked Fault
tasked verb.Create ts = alone create ts
tasked verb.Lay ts = making (at_most_one ts) lay
tasked verb.Write ts = taking (exactly 3) 3 ts (λ n. write (slice_index n 0) (slice_index n 1) (slice_index n 2))
tasked verb.Read ts = taking (exactly 2) 3 ts (λ n. read (slice_index n 0) (slice_index n 1))
tasked verb.Print ts = making (run_or_all ts) print
tasked verb.Survey ts = making (run_or_all ts) survey
tasked verb.Exchange ts = taking (exactly 1) 3 ts (λ n. exchange (slice_index n 0))
tasked verb.Sweep ts = making (one_or_all ts) sweep
tasked verb.Status ts = alone status ts
tasked verb.Verify ts = alone verify ts
tasked verb.Put ts = making (last ts) put
tasked verb.Get ts = making (last ts) get
tasked verb.Help ts = Err UnknownCommand
tasked verb.Drill ts = Err UnknownCommand
tasked verb.Script ts = Err UnknownCommand

-- a task on an archive: the path of its description comes first
abbrev pub on_archive : Verb → List (List ℕ) → Result Wanted Fault
on_archive v ts = token_then ts (λ path us. making (tasked v us) (on path))

-- the command of a name, with these tokens after it
abbrev pub ordered : Verb → List (List ℕ) → Result Wanted Fault
ordered verb.Help ts = making (at_most_one ts) help
ordered verb.Drill ts = making (at_most_one ts) drill
ordered verb.Script ts = making (at_most_one ts) script
ordered verb.Create ts = on_archive verb.Create ts
ordered verb.Lay ts = on_archive verb.Lay ts
ordered verb.Write ts = on_archive verb.Write ts
ordered verb.Read ts = on_archive verb.Read ts
ordered verb.Print ts = on_archive verb.Print ts
ordered verb.Survey ts = on_archive verb.Survey ts
ordered verb.Exchange ts = on_archive verb.Exchange ts
ordered verb.Sweep ts = on_archive verb.Sweep ts
ordered verb.Status ts = on_archive verb.Status ts
ordered verb.Verify ts = on_archive verb.Verify ts
ordered verb.Put ts = on_archive verb.Put ts
ordered verb.Get ts = on_archive verb.Get ts

-- what a line asks
unfoldable pub ordering : List ℕ → Result (Option Wanted) Fault
ordering line = line_means line (λ name ts. present (following (verb_of name) (λ v. ordered v ts)))

-- the answer is that; only want of memory may come instead
abbrev pub ReadsOrder : List ℕ → Result (Option Order) Fault → Type 0
ReadsOrder line r = Answers (option_map order_meant) (ordering line) r
