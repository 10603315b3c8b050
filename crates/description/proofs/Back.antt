-- How a printed description is read again.
use Rattle.std.proofs.Common.{◌≡◌, ℕ, ◌+◌, true, false, List, [], ◌∷◌, ◌++◌, Ok, length, map, refl, ap, ◌∙◌, codes, arith}
use Rattle.std.specs.Fmt.{decimal}
use Rattle.std.specs.List.{AllByRecursion}
use Rattle.std.specs.Str.{bytes_eq}
use Rattle.std.proofs.lemmas.Bool.{eq-eqb}
use Rattle.command.specs.Lines.{remark}
use Rattle.command.specs.Wording.{field_name}
use Rattle.command.specs.declared.command.FieldName.{FieldName}
use Rattle.command.specs.declared.command.FieldName.TheVariants.{Nibble, Byte, Count}
use Rattle.description.specs.Describing.{Planned, powers, groups, written, Under, disks, archives, Plain}
use Rattle.description.specs.Lines.{Said}
use Rattle.description.specs.Printable.{IsToken, HasCodes, HasRows, HasPaths, Printable}
use Rattle.description.specs.Small.{IsSmall, AreSmall, HasSmallCodes}
use Rattle.description.specs.Printing.{plan_word, row_line, table_lines, places_line, path_lines, below_lines, lines_printed, printed}
use Rattle.description.specs.Reading.{title_of, field_in, plan_tokens, plan_in, row_in, rows_in, rows_of, places_in, paths_in, below_in, meaning, reading}
use Rattle.description.specs.declared.fault.Wanted.{Wanted}
use Rattle.description.specs.declared.fault.Wanted.TheVariants.{Bay, Part}
use Rattle.description.specs.declared.kind.PlanKind as kinds
use Rattle.description.specs.declared.kind.PlanKind.TheVariants as kind
use Rattle.description.proofs.Numbers.{number_back, number_token, numbers_back, numbers_tokens}
use Rattle.description.proofs.Tokenizing.{said_in, printed_said}

-- the line of this number
abbrev pub line_at : ℕ → List ℕ → List (List ℕ) → Said
line_at n t ts = record { at = n; first = t; others = ts }

title_back : (n : ℕ) (rest : List Said) → title_of (line_at n (codes "raskold") (codes "archive" ∷ []) ∷ rest) ≡ Ok rest
unfolding title_of
title_back n rest = refl

field_back : (f : FieldName) (n : ℕ) (rest : List Said) → field_in (line_at n (codes "field") (field_name f ∷ []) ∷ rest) ≡ Ok (f, rest)
unfolding field_in
field_back Nibble n rest = refl
field_back Byte n rest = refl
field_back Count n rest = refl

-- the kind of a plan
abbrev pub kind_is : Planned → kinds.PlanKind
kind_is powers = kind.Powers
kind_is groups = kind.Groups
kind_is (written rows) = kind.Written

plan_tokens_back : (p : Planned) (d c : ℕ) → IsSmall d → IsSmall c → plan_tokens (plan_word p ∷ decimal d ∷ decimal c ∷ []) ≡ Ok (kind_is p, d, c)
unfolding plan_tokens
plan_tokens_back powers d c hd hc = rw (number_back d hd, number_back c hc) refl
plan_tokens_back groups d c hd hc = rw (number_back d hd, number_back c hc) refl
plan_tokens_back (written rows) d c hd hc = rw (number_back d hd, number_back c hc) refl

plan_back : (p : Planned) (d c n : ℕ) (rest : List Said) → IsSmall d → IsSmall c → plan_in (line_at n (codes "plan") (plan_word p ∷ decimal d ∷ decimal c ∷ []) ∷ rest) ≡ Ok ((kind_is p, d, c), rest)
unfolding plan_in
plan_back p d c n rest hd hc = rw (plan_tokens_back p d c hd hc) refl

-- a row of so many codes that fit 32 bits
pub record IsRow (d : ℕ) (row : List ℕ) : Type 0 where
  codes : HasCodes d row
  small : AllByRecursion IsSmall row

are_rows : (d : ℕ) (rows : List (List ℕ)) → AllByRecursion (HasCodes d) rows → AreSmall rows → AllByRecursion (IsRow d) rows
are_rows d [] h k = tt
are_rows d (row ∷ rows) h k = (record { codes = h.0; small = k.0 }, are_rows d rows h.1 k.1)

row_back : (d n : ℕ) (row : List ℕ) (rest : List Said) → IsRow d row → row_in d (line_at n (codes "row") (map decimal row) ∷ rest) ≡ Ok (row, rest)
unfolding row_in
row_back d n row rest h = rw (numbers_back 2 row h.small, eq-eqb (length row) d h.codes) refl

-- the rows are read again, and after them the lines behind them, of which some line comes next
rows_back : (d n : ℕ) (rows : List (List ℕ)) (ls : List (List (List ℕ))) → AllByRecursion (IsRow d) rows → (m : ℕ) × (rows_in d (length rows) (said_in n (map row_line rows ++ ls)) ≡ Ok (rows, said_in m ls))
rows_back d n [] ls h = (n, refl)
rows_back d n (row ∷ rows) ls h =
    let others = rows_back d (n + 1) rows ls h.1 in
    (others.0, rw (row_back d (n + 1) row (said_in (n + 1) (map row_line rows ++ ls)) h.0, others.1) refl)

table_back : (p : Planned) (d c n : ℕ) (ls : List (List (List ℕ))) → HasRows d c p → HasSmallCodes p → (m : ℕ) × (rows_of (kind_is p) d c (said_in n (table_lines p ++ ls)) ≡ Ok (p, said_in m ls))
table_back powers d c n ls h k = (n, refl)
table_back groups d c n ls h k = (n, refl)
table_back (written rows) d c n ls h k =
    let found = rows_back d n rows ls (are_rows d rows h.1 k) in
    (found.0, rw (← h.0) (rw found.1 refl))

places_back : (k n : ℕ) (rest : List Said) → IsSmall k → places_in (line_at n (codes "places") (decimal k ∷ []) ∷ rest) ≡ Ok (k, rest)
unfolding places_in
places_back k n rest h = rw (number_back k h) refl

paths_back : (first : List ℕ) (w : Wanted) (n : ℕ) (paths : List (List ℕ)) → remark first ≡ false → bytes_eq first first ≡ true → paths_in first w (said_in n (path_lines first paths)) ≡ Ok paths
paths_back first w n [] r e = refl
paths_back first w n (p ∷ ps) r e = rw (r, e, paths_back first w (n + 1) ps r e) refl

below_back : (u : Under) (n : ℕ) → HasPaths u → below_in (said_in n (below_lines u)) ≡ Ok u
below_back (disks []) n h = absurd (omega (arith, h.0))
below_back (disks (p ∷ ps)) n h = rw (paths_back (codes "bay") Bay (n + 1) ps refl refl) refl
below_back (archives []) n h = absurd (omega (arith, h.0))
below_back (archives (p ∷ ps)) n h = rw (paths_back (codes "part") Part (n + 1) ps refl refl) refl

-- the numbers of a description fit 32 bits
pub record HasSmall (d : Plain) : Type 0 where
  pub data_bays : IsSmall d.data_count
  pub check_bays : IsSmall d.check_count
  pub places : IsSmall d.place_count
  pub codes : HasSmallCodes d.checks

-- the lines of a description mean it
lines_back : (d : Plain) → Printable d → HasSmall d → meaning (said_in 0 (lines_printed d)) ≡ Ok d
unfolding meaning
lines_back d h k =
    let behind = places_line d.place_count ∷ below_lines d.under in
    let table = table_back d.checks d.data_count d.check_count 3 behind h.rows k.codes in
    let after_places = said_in (table.0 + 1) (below_lines d.under) in
    rw (title_back 1, field_back d.words 2, plan_back d.checks d.data_count d.check_count 3 _ k.data_bays k.check_bays, table.1, places_back d.place_count (table.0 + 1) after_places k.places, below_back d.under (table.0 + 1) h.paths) refl

-- what is printed of a field, or of a plan's name, is a token
field_token : (f : FieldName) → IsToken (field_name f)
field_token Nibble = (omega arith, refl)
field_token Byte = (omega arith, refl)
field_token Count = (omega arith, refl)

plan_token : (p : Planned) → IsToken (plan_word p)
plan_token powers = (omega arith, refl)
plan_token groups = (omega arith, refl)
plan_token (written rows) = (omega arith, refl)

all_append : (ls ms : List (List (List ℕ))) → AllByRecursion (AllByRecursion IsToken) ls → AllByRecursion (AllByRecursion IsToken) ms → AllByRecursion (AllByRecursion IsToken) (ls ++ ms)
all_append [] ms h k = k
all_append (l ∷ ls) ms h k = (h.0, all_append ls ms h.1 k)

rows_tokens : (rows : List (List ℕ)) → AreSmall rows → AllByRecursion (AllByRecursion IsToken) (map row_line rows)
rows_tokens [] h = tt
rows_tokens (row ∷ rows) h = (((omega arith, refl), numbers_tokens row h.0), rows_tokens rows h.1)

table_tokens : (p : Planned) → HasSmallCodes p → AllByRecursion (AllByRecursion IsToken) (table_lines p)
table_tokens powers h = tt
table_tokens groups h = tt
table_tokens (written rows) h = rows_tokens rows h

paths_tokens : (first : List ℕ) (paths : List (List ℕ)) → IsToken first → AllByRecursion IsToken paths → AllByRecursion (AllByRecursion IsToken) (path_lines first paths)
paths_tokens first [] t h = tt
paths_tokens first (p ∷ ps) t h = ((t, (h.0, tt)), paths_tokens first ps t h.1)

below_tokens : (u : Under) → HasPaths u → AllByRecursion (AllByRecursion IsToken) (below_lines u)
below_tokens (disks ps) h = paths_tokens (codes "bay") ps (omega arith, refl) h.1
below_tokens (archives ps) h = paths_tokens (codes "part") ps (omega arith, refl) h.1

-- all that is printed of a description are tokens
lines_tokens : (d : Plain) → Printable d → HasSmall d → AllByRecursion (AllByRecursion IsToken) (lines_printed d)
lines_tokens d h k =
    let raskold : IsToken (codes "raskold") = (omega arith, refl) in
    let archive : IsToken (codes "archive") = (omega arith, refl) in
    let field : IsToken (codes "field") = (omega arith, refl) in
    let plan : IsToken (codes "plan") = (omega arith, refl) in
    let places : IsToken (codes "places") = (omega arith, refl) in
    let behind = all_append (table_lines d.checks) (places_line d.place_count ∷ below_lines d.under) (table_tokens d.checks k.codes) ((places, (number_token d.place_count k.places, tt)), below_tokens d.under h.paths) in
    ((raskold, (archive, tt)), ((field, (field_token d.words, tt)), ((plan, (plan_token d.checks, (number_token d.data_count k.data_bays, (number_token d.check_count k.check_bays, tt)))), behind)))

-- the text of a description is read as that description
pub reads_back : (d : Plain) → Printable d → HasSmall d → reading (printed (lines_printed d)) ≡ Ok d
reads_back d h k = ap meaning (printed_said 0 (lines_printed d) (lines_tokens d h k)) ∙ lines_back d h k
