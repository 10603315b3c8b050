-- What a line means.
use Rattle.std.specs.Prelude.{ℕ, cond, List, [], ◌∷◌, Ok, Err, vec_items, codes, slice_index, Option, Result}
use Rattle.std.specs.Option.{option_map}
use Rattle.std.specs.Str.{bytes_eq}
use Rattle.command.specs.Arguments.{exactly, any, one_and_rest, taking}
use Rattle.command.specs.Lines.{line_means, present}
use Rattle.command.specs.Outcome.{following, Answers}
use Rattle.command.specs.declared.command.Command.{Command}
use Rattle.command.specs.declared.command.Command.TheVariants.{Archive, Lay, Write, Lost}
use Rattle.command.specs.declared.command.Description.{Description}
use Rattle.command.specs.declared.command.FieldName.{FieldName}
use Rattle.command.specs.declared.command.FieldName.TheVariants.{Nibble, Byte, Count}
use Rattle.command.specs.declared.command.Fault.{Fault}
use Rattle.command.specs.declared.command.Fault.TheVariants.{UnknownCommand, UnknownField, UnknownPlan, TokenCount}

-- a command, with its words as a list; its parts are in the order of the tokens
pub data Order : Type 0 where
  archive : Description → Order
  lay : ℕ → List ℕ → Order
  write : ℕ → ℕ → ℕ → Order
  lost : List ℕ → Order

-- the command that a value of the program stands for
abbrev pub meant : Command → Order
meant (Archive d) = archive d
meant (Lay place words) = lay place (vec_items words)
meant (Write bay place word) = write bay place word
meant (Lost bays) = lost (vec_items bays)

-- a token, and then what those after it mean
abbrev pub token_then : {X : Type 0} → List (List ℕ) → (List ℕ → List (List ℕ) → Result X Fault) → Result X Fault
token_then [] next = Err TokenCount
token_then (t ∷ ts) next = next t ts

abbrev pub field_of : List ℕ → Result FieldName Fault
field_of t =
    cond (bytes_eq t (codes "nibble")) (Ok Nibble)
    (cond (bytes_eq t (codes "byte")) (Ok Byte)
    (cond (bytes_eq t (codes "count")) (Ok Count)
    (Err UnknownField)))

abbrev pub plan_of : List ℕ → Result (Unit {0}) Fault
plan_of t = cond (bytes_eq t (codes "powers")) (Ok tt) (Err UnknownPlan)

-- What the tokens after a command's name mean. They are read from left to right, and the first that is wrong is the fault;
-- where none is, it is a fault that there are too few or too many.

-- FIELD PLAN DATA CHECKS PLACES; a proof opens it by name, since it is longer than the others
unfoldable pub describing : List (List ℕ) → Result Description Fault
describing ts =
    token_then ts (λ field us. following (field_of field) (λ f.
    token_then us (λ plan vs. following (plan_of plan) (λ _.
    taking (exactly 3) 4 vs (λ n. record { field = f; data_bays = slice_index n 0; check_bays = slice_index n 1; places = slice_index n 2 })))))

-- archive FIELD PLAN DATA CHECKS PLACES
abbrev pub archiving : List (List ℕ) → Result Order Fault
archiving ts = following (describing ts) (λ d. Ok (archive d))

-- lay PLACE WORD WORD ..
abbrev pub laying : List (List ℕ) → Result Order Fault
laying ts = taking one_and_rest 2 ts (λ n. lay n.0 n.1)

-- write BAY PLACE WORD
abbrev pub writing : List (List ℕ) → Result Order Fault
writing ts = taking (exactly 3) 2 ts (λ n. write (slice_index n 0) (slice_index n 1) (slice_index n 2))

-- lost BAY BAY ..
abbrev pub losing : List (List ℕ) → Result Order Fault
losing ts = taking any 2 ts lost

-- the command of this name, with these tokens after the name
abbrev pub named : List ℕ → List (List ℕ) → Result Order Fault
named name ts =
    cond (bytes_eq name (codes "archive")) (archiving ts)
    (cond (bytes_eq name (codes "lay")) (laying ts)
    (cond (bytes_eq name (codes "write")) (writing ts)
    (cond (bytes_eq name (codes "lost")) (losing ts)
    (Err UnknownCommand))))

-- what a line means
unfoldable pub reading : List ℕ → Result (Option Order) Fault
reading line = line_means line (λ name ts. present (named name ts))

-- the answer is what the line means; only want of memory may come instead
abbrev pub Reads : List ℕ → Result (Option Command) Fault → Type 0
Reads line r = Answers (option_map meant) (reading line) r
