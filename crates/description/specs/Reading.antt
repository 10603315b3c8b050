-- What the text of a description means. Its lines are read in turn, and each line from left to right: the first thing that is wrong is
-- the fault.
use Rattle.std.specs.Prelude.{ℕ, zero, suc, cond, ◌==◌, length, List, [], ◌∷◌, Ok, Err, codes, slice_index, Result}
use Rattle.std.specs.Str.{bytes_eq}
use Rattle.command.specs.Arguments.{exactly, taking}
use Rattle.command.specs.Numerals.{numerals}
use Rattle.command.specs.Outcome as of_tokens
use Rattle.command.specs.Reading.{field_of, token_then}
use Rattle.command.specs.declared.command.FieldName.{FieldName}
use Rattle.command.specs.declared.command.Fault as token_fault
use Rattle.command.specs.declared.command.Fault.TheVariants.{TokenCount}
use Rattle.description.specs.Describing.{Planned, powers, groups, written, Under, disks, archives, Plain}
use Rattle.description.specs.Kinds.{kind_of}
use Rattle.description.specs.Lines.{Said, said_after}
use Rattle.description.specs.Outcome.{following, at_line}
use Rattle.description.specs.declared.fault.Fault.{Fault}
use Rattle.description.specs.declared.fault.Fault.TheVariants.{Missing, Misplaced, Line}
use Rattle.description.specs.declared.fault.Wanted.{Wanted}
use Rattle.description.specs.declared.fault.Wanted.TheVariants.{Title, Field, Plan, Row, Places, Path, Bay, Part}
use Rattle.description.specs.declared.kind.PlanKind as kinds
use Rattle.description.specs.declared.kind.PlanKind.TheVariants as kind

-- a part of the text: what it means, and the lines after it
abbrev pub PartOf : Type 0 → Type 0
PartOf X = Result (X × List Said) Fault

-- the line that is wanted, by its first token, and the lines after it
abbrev pub wanting : List ℕ → Wanted → List Said → PartOf Said
wanting first w [] = Err (Missing w)
wanting first w (l ∷ ls) = cond (bytes_eq l.first first) (Ok (l, ls)) (Err (Misplaced l.at w))

-- one token and no more
abbrev pub one : List (List ℕ) → Result (List ℕ) token_fault.Fault
one [] = Err TokenCount
one (t ∷ []) = Ok t
one (t ∷ u ∷ us) = Err TokenCount

-- raskold archive
unfoldable pub title_of : List Said → Result (List Said) Fault
title_of ls =
    following (wanting (codes "raskold") Title ls) (λ x.
    following (at_line x.0.at (one x.0.others)) (λ t.
    cond (bytes_eq t (codes "archive")) (Ok x.1) (Err (Misplaced x.0.at Title))))

-- field FIELD
unfoldable pub field_in : List Said → PartOf FieldName
field_in ls =
    following (wanting (codes "field") Field ls) (λ x.
    following (at_line x.0.at (one x.0.others)) (λ t.
    following (at_line x.0.at (field_of t)) (λ f.
    Ok (f, x.1))))

-- PLAN DATA CHECKS
unfoldable pub plan_tokens : List (List ℕ) → Result (kinds.PlanKind × ℕ × ℕ) token_fault.Fault
plan_tokens ts =
    token_then ts (λ token us. of_tokens.following (kind_of token) (λ k.
    taking (exactly 2) 3 us (λ n. (k, slice_index n 0, slice_index n 1))))

-- plan PLAN DATA CHECKS
unfoldable pub plan_in : List Said → PartOf (kinds.PlanKind × ℕ × ℕ)
plan_in ls =
    following (wanting (codes "plan") Plan ls) (λ x.
    following (at_line x.0.at (plan_tokens x.0.others)) (λ p.
    Ok (p, x.1)))

-- row CODE .., with so many codes
unfoldable pub row_in : ℕ → List Said → PartOf (List ℕ)
row_in data_bays ls =
    following (wanting (codes "row") Row ls) (λ x.
    following (at_line x.0.at (numerals 2 x.0.others)) (λ ns.
    cond (length ns == data_bays) (Ok (ns, x.1)) (Err (Line x.0.at TokenCount))))

-- so many of these lines
abbrev pub rows_in : ℕ → ℕ → List Said → PartOf (List (List ℕ))
rows_in data_bays zero ls = Ok ([], ls)
rows_in data_bays (suc n) ls =
    following (row_in data_bays ls) (λ x.
    following (rows_in data_bays n x.1) (λ y.
    Ok (x.0 ∷ y.0, y.1)))

-- the rows of the plan that was named, where it is a written one
abbrev pub rows_of : kinds.PlanKind → ℕ → ℕ → List Said → PartOf Planned
rows_of kind.Powers data_bays check_bays ls = Ok (powers, ls)
rows_of kind.Groups data_bays check_bays ls = Ok (groups, ls)
rows_of kind.Written data_bays check_bays ls = following (rows_in data_bays check_bays ls) (λ x. Ok (written x.0, x.1))

-- places PLACES
unfoldable pub places_in : List Said → PartOf ℕ
places_in ls =
    following (wanting (codes "places") Places ls) (λ x.
    following (at_line x.0.at (taking (exactly 1) 2 x.0.others (λ n. slice_index n 0))) (λ p.
    Ok (p, x.1)))

-- the path of a line, which is to have this first token
abbrev pub path_in : List ℕ → Wanted → Said → Result (List ℕ) Fault
path_in first w l = cond (bytes_eq l.first first) (at_line l.at (one l.others)) (Err (Misplaced l.at w))

-- the paths of all these lines
abbrev pub paths_in : List ℕ → Wanted → List Said → Result (List (List ℕ)) Fault
paths_in first w [] = Ok []
paths_in first w (l ∷ ls) = following (path_in first w l) (λ t. following (paths_in first w ls) (λ ts. Ok (t ∷ ts)))

-- bay PATH in each line, or part PATH in each line, to the end of the text
abbrev pub below_in : List Said → Result Under Fault
below_in [] = Err (Missing Path)
below_in (l ∷ ls) =
    cond (bytes_eq l.first (codes "bay")) (following (paths_in (codes "bay") Bay (l ∷ ls)) (λ ts. Ok (disks ts)))
    (cond (bytes_eq l.first (codes "part")) (following (paths_in (codes "part") Part (l ∷ ls)) (λ ts. Ok (archives ts)))
    (Err (Misplaced l.at Path)))

-- what the lines of a description mean
unfoldable pub meaning : List Said → Result Plain Fault
meaning ls =
    following (title_of ls) (λ after_title.
    following (field_in after_title) (λ f.
    following (plan_in f.1) (λ p.
    following (rows_of p.0.0 p.0.1 p.0.2 p.1) (λ r.
    following (places_in r.1) (λ q.
    following (below_in q.1) (λ b.
    Ok record { words = f.0; checks = r.0; data_count = p.0.1; check_count = p.0.2; place_count = q.0; under = b }))))))

-- what the text of a description means
abbrev pub reading : List ℕ → Result Plain Fault
reading text = meaning (said_after 0 text)
