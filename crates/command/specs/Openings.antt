-- Which shelf in memory a line begins.
use Rattle.std.specs.Prelude.{ℕ, cond, List, None, Ok, codes, slice_index, Option, Result}
use Rattle.std.specs.Str.{bytes_eq}
use Rattle.command.specs.Arguments.{exactly, taking}
use Rattle.command.specs.Lines.{line_means, present}
use Rattle.command.specs.Outcome.{following, Answers}
use Rattle.command.specs.Reading.{describing}
use Rattle.command.specs.declared.opening.Opening.{Opening}
use Rattle.command.specs.declared.opening.Opening.TheVariants.{Drill, Trays, Array, Pile}
use Rattle.command.specs.declared.command.Fault.{Fault}

-- drill PLACES
abbrev pub drilling : List (List ℕ) → Result (Option Opening) Fault
drilling ts = present (taking (exactly 1) 2 ts (λ n. Drill (slice_index n 0)))

-- trays LIMIT PLACES
abbrev pub traying : List (List ℕ) → Result (Option Opening) Fault
traying ts = present (taking (exactly 2) 2 ts (λ n. Trays (slice_index n 0) (slice_index n 1)))

-- array FIELD PLAN DATA CHECKS PLACES, and pile in the same way
abbrev pub arraying : List (List ℕ) → Result (Option Opening) Fault
arraying ts = present (following (describing ts) (λ d. Ok (Array d)))

abbrev pub piling : List (List ℕ) → Result (Option Opening) Fault
piling ts = present (following (describing ts) (λ d. Ok (Pile d)))

-- the opening of this name, with these tokens after the name; any other name begins no shelf
abbrev pub opening_named : List ℕ → List (List ℕ) → Result (Option Opening) Fault
opening_named name ts =
    cond (bytes_eq name (codes "drill")) (drilling ts)
    (cond (bytes_eq name (codes "trays")) (traying ts)
    (cond (bytes_eq name (codes "array")) (arraying ts)
    (cond (bytes_eq name (codes "pile")) (piling ts)
    (Ok None))))

-- which shelf a line begins, if it begins one
unfoldable pub opening : List ℕ → Result (Option Opening) Fault
opening line = line_means line opening_named

-- the answer is that shelf; only want of memory may come instead
abbrev pub ReadsOpening : List ℕ → Result (Option Opening) Fault → Type 0
ReadsOpening line r = Answers (λ o. o) (opening line) r
