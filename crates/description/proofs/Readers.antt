-- What each reader of a description gives, where it gives a value.
use Rattle.std.proofs.Common.{◌≡◌, ℕ, zero, suc, true, false, cond, List, [], ◌∷◌, Ok, Err, Result, length, refl, ap, subst, ⊎_elim, codes, arith}
use Rattle.std.specs.List.{AllByRecursion}
use Rattle.std.specs.Prelude.{◌==◌, slice_index}
use Rattle.std.specs.Str.{bytes_eq}
use Rattle.std.proofs.lemmas.Bool.{cases_Bool, eqb-true}
use Rattle.command.specs.Arguments.{exactly, taking}
use Rattle.command.specs.Numerals.{numerals}
use Rattle.command.specs.Reading.{field_of}
use Rattle.command.specs.declared.command.FieldName.{FieldName}
use Rattle.command.specs.declared.command.Fault.TheVariants.{TokenCount}
use Rattle.description.specs.Describing.{described, Planned, powers, groups, written, Under, disks, archives, Plain}
use Rattle.description.specs.Lines.{Said, said_after}
use Rattle.description.specs.Outcome.{following, at_line, Answers}
use Rattle.description.specs.Printable.{IsToken, HasCodes, HasRows, ArePaths, HasPaths, Printable}
use Rattle.description.specs.Reading.{wanting, one, title_of, field_in, plan_tokens, plan_in, row_in, rows_in, rows_of, places_in, path_in, paths_in, below_in, meaning, reading}
use Rattle.std.specs.Result.{IfOk}
use Rattle.description.specs.declared.description.Description.{Description}
use Rattle.description.specs.declared.fault.Fault.{Fault}
use Rattle.description.specs.declared.fault.Fault.TheVariants.{Misplaced, Line}
use Rattle.description.specs.declared.fault.Wanted.{Wanted}
use Rattle.description.specs.declared.fault.Wanted.TheVariants.{Title, Field, Plan, Row, Places, Path, Bay, Part}
use Rattle.description.specs.declared.kind.PlanKind as kinds
use Rattle.description.specs.declared.kind.PlanKind.TheVariants as kind
use Rattle.description.proofs.Given.{same_value, HasTokens, said_tokens, after_ok, line_ok, chosen_ok, picked_first, picked_second, wanting_tokens, one_is}

-- each line that is left has tokens
abbrev pub AllTokens : List Said → Type 0
AllTokens ls = AllByRecursion HasTokens ls

title_given : (ls after : List Said) → title_of ls ≡ Ok after → AllTokens ls → AllTokens after
unfolding title_of
title_given ls after e h =
    let p = after_ok (wanting (codes "raskold") Title ls) _ after e in
    let q = after_ok (at_line p.0.0.at (one p.0.0.others)) _ after p.2 in
    let r = chosen_ok (bytes_eq q.0 (codes "archive")) (Ok p.0.1) (Misplaced p.0.0.at Title) after q.2 in
    let same : p.0.1 ≡ after = let g = r.1 in cc in
    subst AllTokens same (wanting_tokens (codes "raskold") Title ls p.0 p.1 h).1

field_given : (ls : List Said) (x : FieldName × List Said) → field_in ls ≡ Ok x → AllTokens ls → AllTokens x.1
unfolding field_in
field_given ls x e h =
    let p = after_ok (wanting (codes "field") Field ls) _ x e in
    let q = after_ok (at_line p.0.0.at (one p.0.0.others)) _ x p.2 in
    let r = after_ok (at_line p.0.0.at (field_of q.0)) _ x q.2 in
    let same : (r.0, p.0.1) ≡ x = let g = r.2 in cc in
    subst (λ (y : FieldName × List Said). AllTokens y.1) same (wanting_tokens (codes "field") Field ls p.0 p.1 h).1

plan_given : (ls : List Said) (x : (kinds.PlanKind × ℕ × ℕ) × List Said) → plan_in ls ≡ Ok x → AllTokens ls → AllTokens x.1
unfolding plan_in
plan_given ls x e h =
    let p = after_ok (wanting (codes "plan") Plan ls) _ x e in
    let q = after_ok (at_line p.0.0.at (plan_tokens p.0.0.others)) _ x p.2 in
    let same : (q.0, p.0.1) ≡ x = let g = q.2 in cc in
    subst (λ (y : (kinds.PlanKind × ℕ × ℕ) × List Said). AllTokens y.1) same (wanting_tokens (codes "plan") Plan ls p.0 p.1 h).1

row_given : (d : ℕ) (ls : List Said) (x : List ℕ × List Said) → row_in d ls ≡ Ok x → AllTokens ls → HasCodes d x.0 × AllTokens x.1
unfolding row_in
row_given d ls x e h =
    let p = after_ok (wanting (codes "row") Row ls) _ x e in
    let q = after_ok (at_line p.0.0.at (numerals 2 p.0.0.others)) _ x p.2 in
    let r = chosen_ok (length q.0 == d) (Ok (q.0, p.0.1)) (Line p.0.0.at TokenCount) x q.2 in
    let same : (q.0, p.0.1) ≡ x = let g = r.1 in cc in
    subst (λ (y : List ℕ × List Said). HasCodes d y.0 × AllTokens y.1) same (eqb-true (length q.0) d r.0, (wanting_tokens (codes "row") Row ls p.0 p.1 h).1)

rows_given : (d n : ℕ) (ls : List Said) (x : List (List ℕ) × List Said) → rows_in d n ls ≡ Ok x → AllTokens ls → (length x.0 ≡ n) × AllByRecursion (HasCodes d) x.0 × AllTokens x.1
rows_given d zero ls x e h =
    let same : ([], ls) ≡ x = cc in
    subst (λ (y : List (List ℕ) × List Said). (length y.0 ≡ 0) × AllByRecursion (HasCodes d) y.0 × AllTokens y.1) same (refl, tt, h)
rows_given d (suc n) ls x e h =
    let p = after_ok (row_in d ls) _ x e in
    let one_row = row_given d ls p.0 p.1 h in
    let q = after_ok (rows_in d n p.0.1) _ x p.2 in
    let others = rows_given d n p.0.1 q.0 q.1 one_row.1 in
    let same : (p.0.0 ∷ q.0.0, q.0.1) ≡ x = let g = q.2 in cc in
    subst (λ (y : List (List ℕ) × List Said). (length y.0 ≡ suc n) × AllByRecursion (HasCodes d) y.0 × AllTokens y.1) same (ap suc others.0, (one_row.0, others.1), others.2)

table_given : (k : kinds.PlanKind) (d c : ℕ) (ls : List Said) (x : Planned × List Said) → rows_of k d c ls ≡ Ok x → AllTokens ls → HasRows d c x.0 × AllTokens x.1
table_given kind.Powers d c ls x e h =
    let same : (powers, ls) ≡ x = cc in
    subst (λ (y : Planned × List Said). HasRows d c y.0 × AllTokens y.1) same (tt, h)
table_given kind.Groups d c ls x e h =
    let same : (groups, ls) ≡ x = cc in
    subst (λ (y : Planned × List Said). HasRows d c y.0 × AllTokens y.1) same (tt, h)
table_given kind.Written d c ls x e h =
    let p = after_ok (rows_in d c ls) _ x e in
    let g = rows_given d c ls p.0 p.1 h in
    let same : (written p.0.0, p.0.1) ≡ x = let q = p.2 in cc in
    subst (λ (y : Planned × List Said). HasRows d c y.0 × AllTokens y.1) same ((g.0, g.1), g.2)

places_given : (ls : List Said) (x : ℕ × List Said) → places_in ls ≡ Ok x → AllTokens ls → AllTokens x.1
unfolding places_in
places_given ls x e h =
    let p = after_ok (wanting (codes "places") Places ls) _ x e in
    let q = after_ok (at_line p.0.0.at (taking (exactly 1) 2 p.0.0.others (λ n. slice_index n 0))) _ x p.2 in
    let same : (q.0, p.0.1) ≡ x = let g = q.2 in cc in
    subst (λ (y : ℕ × List Said). AllTokens y.1) same (wanting_tokens (codes "places") Places ls p.0 p.1 h).1

path_given : (first : List ℕ) (w : Wanted) (l : Said) (t : List ℕ) → path_in first w l ≡ Ok t → HasTokens l → IsToken t
path_given first w l t e h =
    let p = chosen_ok (bytes_eq l.first first) (at_line l.at (one l.others)) (Misplaced l.at w) t e in
    one_is l.others t (line_ok l.at (one l.others) t p.1) h

paths_given : (first : List ℕ) (w : Wanted) (ls : List Said) (ts : List (List ℕ)) → paths_in first w ls ≡ Ok ts → AllTokens ls → (length ts ≡ length ls) × AllByRecursion IsToken ts
paths_given first w [] ts e h =
    let same : [] ≡ ts = cc in
    subst (λ (us : List (List ℕ)). (length us ≡ 0) × AllByRecursion IsToken us) same (refl, tt)
paths_given first w (l ∷ ls) ts e h =
    let p = after_ok (path_in first w l) _ ts e in
    let q = after_ok (paths_in first w ls) _ ts p.2 in
    let others = paths_given first w ls q.0 q.1 h.1 in
    let same : p.0 ∷ q.0 ≡ ts = let g = q.2 in cc in
    subst (λ (us : List (List ℕ)). (length us ≡ suc (length ls)) × AllByRecursion IsToken us) same (ap suc others.0, (path_given first w l p.0 p.1 h.0, others.1))

some_paths : (first : List ℕ) (w : Wanted) (l : Said) (ls : List Said) (ts : List (List ℕ)) → paths_in first w (l ∷ ls) ≡ Ok ts → AllTokens (l ∷ ls) → ArePaths ts
some_paths first w l ls ts e h = let g = paths_given first w (l ∷ ls) ts e h in (omega (arith, g.0), g.1)

below_given : (ls : List Said) (u : Under) → below_in ls ≡ Ok u → AllTokens ls → HasPaths u
below_given [] u e h = absurd (cc)
below_given (l ∷ ls) u e h =
    let bays = following (paths_in (codes "bay") Bay (l ∷ ls)) (λ ts. Ok (disks ts)) in
    let parts = following (paths_in (codes "part") Part (l ∷ ls)) (λ ts. Ok (archives ts)) in
    let or_parts = cond (bytes_eq l.first (codes "part")) parts (Err (Misplaced l.at Path)) in
    ⊎_elim
    (λ (b : bytes_eq l.first (codes "bay") ≡ true).
    let p = after_ok (paths_in (codes "bay") Bay (l ∷ ls)) (λ ts. Ok (disks ts)) u (picked_first (bytes_eq l.first (codes "bay")) bays or_parts (Ok u) b e) in
    let same : disks p.0 ≡ u = let g = p.2 in cc in
    subst HasPaths same (some_paths (codes "bay") Bay l ls p.0 p.1 h))
    (λ (b : bytes_eq l.first (codes "bay") ≡ false).
    let r = chosen_ok (bytes_eq l.first (codes "part")) parts (Misplaced l.at Path) u (picked_second (bytes_eq l.first (codes "bay")) bays or_parts (Ok u) b e) in
    let p = after_ok (paths_in (codes "part") Part (l ∷ ls)) (λ ts. Ok (archives ts)) u r.1 in
    let same : archives p.0 ≡ u = let g = p.2 in cc in
    subst HasPaths same (some_paths (codes "part") Part l ls p.0 p.1 h))
    (cases_Bool (bytes_eq l.first (codes "bay")))

-- a description that is read can be printed
pub read_printable : (text : List ℕ) (d : Plain) → reading text ≡ Ok d → Printable d
unfolding meaning
read_printable text d e =
    let ls = said_after 0 text in
    let a = after_ok (title_of ls) _ d e in
    let b = after_ok (field_in a.0) _ d a.2 in
    let p = after_ok (plan_in b.0.1) _ d b.2 in
    let r = after_ok (rows_of p.0.0.0 p.0.0.1 p.0.0.2 p.0.1) _ d p.2 in
    let q = after_ok (places_in r.0.1) _ d r.2 in
    let u = after_ok (below_in q.0.1) _ d q.2 in
    let ga = title_given ls a.0 a.1 (said_tokens 0 text) in
    let gb = field_given a.0 b.0 b.1 ga in
    let gp = plan_given b.0.1 p.0 p.1 gb in
    let gr = table_given p.0.0.0 p.0.0.1 p.0.0.2 p.0.1 r.0 r.1 gp in
    let gq = places_given r.0.1 q.0 q.1 gr.1 in
    let gu = below_given q.0.1 u.0 u.1 gq in
    let whole : Plain = record { words = b.0.0; checks = r.0.0; data_count = p.0.0.1; check_count = p.0.0.2; place_count = q.0.0; under = u.0 } in
    let same : whole ≡ d = same_value whole d u.2 in
    subst Printable {x = whole} same record { rows = gr.0; paths = gu }

-- so can a value that is answered
pub answer_printable : (text : List ℕ) (r : Result Description Fault) → Answers described (reading text) r → IfOk r (λ d. Printable (described d))
answer_printable text (Ok d) e = read_printable text (described d) e
answer_printable text (Err f) e = tt
