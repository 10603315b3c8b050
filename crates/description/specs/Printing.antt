-- The text of a description.
use Rattle.std.specs.Prelude.{ℕ, List, [], ◌∷◌, ◌++◌, codes, decimal, map}
use Rattle.command.specs.Wording.{field_name}
use Rattle.description.specs.Describing.{Planned, powers, groups, written, Under, disks, archives, Plain}

-- each of these tokens behind a blank, then a newline, and then the rest of the text
abbrev pub tokens_onto : List (List ℕ) → List ℕ → List ℕ
tokens_onto [] rest = 10 ∷ rest
tokens_onto (t ∷ ts) rest = 32 ∷ (t ++ tokens_onto ts rest)

-- a line of tokens with blanks between them, and then the rest of the text
abbrev pub line_onto : List (List ℕ) → List ℕ → List ℕ
line_onto [] rest = 10 ∷ rest
line_onto (t ∷ ts) rest = t ++ tokens_onto ts rest

-- lines of tokens, as a text
abbrev pub printed : List (List (List ℕ)) → List ℕ
printed [] = []
printed (l ∷ ls) = line_onto l (printed ls)

abbrev pub plan_word : Planned → List ℕ
plan_word powers = codes "powers"
plan_word groups = codes "groups"
plan_word (written rows) = codes "written"

-- raskold archive, field FIELD, plan PLAN DATA CHECKS
abbrev pub head_lines : Plain → List (List (List ℕ))
head_lines d =
    (codes "raskold" ∷ codes "archive" ∷ []) ∷
    (codes "field" ∷ field_name d.words ∷ []) ∷
    (codes "plan" ∷ plan_word d.checks ∷ decimal d.data_count ∷ decimal d.check_count ∷ []) ∷ []

-- row CODE ..
abbrev pub row_line : List ℕ → List (List ℕ)
row_line row = codes "row" ∷ map decimal row

-- one such line for each check of a written plan
abbrev pub table_lines : Planned → List (List (List ℕ))
table_lines powers = []
table_lines groups = []
table_lines (written rows) = map row_line rows

-- places PLACES
abbrev pub places_line : ℕ → List (List ℕ)
places_line n = codes "places" ∷ decimal n ∷ []

-- a line for each path, with this first token
abbrev pub path_lines : List ℕ → List (List ℕ) → List (List (List ℕ))
path_lines first paths = map (λ path. first ∷ path ∷ []) paths

-- bay PATH or part PATH
abbrev pub below_lines : Under → List (List (List ℕ))
below_lines (disks paths) = path_lines (codes "bay") paths
below_lines (archives paths) = path_lines (codes "part") paths

-- the lines of a description
abbrev pub lines_printed : Plain → List (List (List ℕ))
lines_printed d = head_lines d ++ (table_lines d.checks ++ (places_line d.place_count ∷ below_lines d.under))
