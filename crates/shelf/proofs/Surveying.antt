-- A survey, one cell more at a time.
use Rattle.std.proofs.Common.{◌≡◌, ℕ, ◌+◌, ◌*◌, ◌/◌, ◌%◌, ◌<◌, ◌≤◌, List, [], ◌∷◌, ◌++◌, length, take, drop, set, None, Ok, Err, Option, Result, sym, refl, ap, ◌∙◌, subst, ⊎_elim, mul-zero, arith}
use Rattle.std.proofs.lemmas.List.{length_push, drop_more, drop_all, set_at, append-nil, append_assoc, take_at}
use Rattle.std.proofs.lemmas.Nat.{div-add-mod', div_below, mod_below}
use Rattle.std.proofs.lemmas.Bool.{cases_lt}
use Rattle.shelf.specs.declared.refusal.Refusal.{Refusal}
use Rattle.shelf.specs.declared.refusal.Refusal.TheVariants.{ListTooShort}
use Rattle.shelf.specs.declared.lost.LostCell.{LostCell}
use Rattle.shelf.specs.Refusals.{run_refusal}
use Rattle.shelf.specs.Table.{Table}
use Rattle.shelf.specs.Calls.{Outcome, Read, refuses_read}
use Rattle.shelf.specs.Reads.{Reads, Made, Distinct, Listed, Surveyed, Surveys, across, lost_cells}
use Rattle.shelf.proofs.Words.{run_fit}
use Rattle.shelf.proofs.Running.{Inside, cell_at, reads_more, reads_made, lost_none, lost_some, lost_distinct}

-- after k cells: the reads so far, and the list of those that were lost
abbrev pub Surveying : {Self : Type 0} → (Self → Table) → (Self → Type 0) → ℕ → ℕ → Self → Self → List LostCell → List LostCell → ℕ → ℕ → Type 0
Surveying table sound bays first before after list list' k found =
    (rs : List (Result ℕ Refusal)) × (length rs ≡ k) × Reads table sound (across bays first) 0 before rs after
    × (found ≡ length (lost_cells (across bays first) 0 rs)) × (found ≤ length list)
    × (list' ≡ lost_cells (across bays first) 0 rs ++ drop found list)

-- no two indices have one cell: bay and place give the index back
across-apart : (bays first m n : ℕ) → cell_at (across bays first) m ≡ cell_at (across bays first) n → m ≡ n
across-apart bays first m n e =
    let r : m % bays ≡ n % bays = ap (λ (x : LostCell). x.bay) e in
    let p : first + m / bays ≡ first + n / bays = ap (λ (x : LostCell). x.place) e in
    let q : m / bays ≡ n / bays = omega arith in
    sym (div-add-mod' m bays) ∙ (ap (λ x. x * bays + m % bays) q ∙ (ap (λ x. n / bays * bays + x) r ∙ div-add-mod' n bays))

-- a run that has a cell has a bay
some_bay : (k count bays : ℕ) → k < count * bays → 0 < bays
some_bay k count bays h =
    ⊎_elim (λ p. p) (λ z. let e : bays ≡ 0 = omega arith in absurd (let n = ap (λ x. count * x) e ∙ mul-zero count in let v : ⊥ = omega arith in v)) (cases_lt 0 bays)

-- the cells of the run are cells of the shelf
pub across_inside : (t : Table) (first count n : ℕ) → first + count ≤ t.places → n ≤ count * t.bays → Inside (across t.bays first) 0 n t
across_inside t first count n fits few i j l is =
    let b = t.bays in
    let k : j < count * b = omega arith in
    let p = some_bay j count b k in
    (mod_below j b p, (let d = div_below j b count p k in omega arith))

module _ {Self : Type 0} (table : Self → Table) (sound : Self → Type 0) (bays first : ℕ) (s t : Self) (list list' : List LostCell) (k found : ℕ) (so_far : Surveying table sound bays first s t list list' k found) where
  -- a word came: nothing is listed
  pub surveyed_word : (u : Self) (w : ℕ) (list'' : List LostCell) (found' : ℕ) → Outcome table sound t u (refuses_read (k % bays) (first + k / bays)) (Read (k % bays) (first + k / bays)) (Ok w) → list'' ≡ list' → found' ≡ found → Surveying table sound bays first s u list list'' (k + 1) found'
  surveyed_word u w list'' found' read e f =
      let (rs, n, reads, count, room, is) = so_far in
      let same = lost_none (across bays first) 0 rs w in (
        rs ++ Ok w ∷ [],
        length_push rs (Ok w) ∙ ap (λ m. m + 1) n,
        reads_more table sound (across bays first) 0 k s t u rs (Ok w) (omega arith) reads read,
        f ∙ (count ∙ ap length (sym same)),
        omega arith,
        e ∙ (is ∙ (ap (λ xs. xs ++ drop found list) (sym same) ∙ ap (λ m. lost_cells (across bays first) 0 (rs ++ Ok w ∷ []) ++ drop m list) (sym f))),
      )

  -- none came: the cell is next in the list
  pub surveyed_lost : (u : Self) (x : Refusal) (list'' : List LostCell) (found' : ℕ) → Outcome table sound t u (refuses_read (k % bays) (first + k / bays)) (Read (k % bays) (first + k / bays)) (Err x) → found < length list → list'' ≡ set list' found (cell_at (across bays first) k) → found' ≡ found + 1 → Surveying table sound bays first s u list list'' (k + 1) found'
  surveyed_lost u x list'' found' read h e f =
      let (rs, n, reads, count, room, is) = so_far in
      let lost = lost_cells (across bays first) 0 rs in
      let here = cell_at (across bays first) k in
      let more : lost_cells (across bays first) 0 (rs ++ Err x ∷ []) ≡ lost ++ here ∷ [] = lost_some (across bays first) 0 k rs x (omega arith) in
      let next : list'' ≡ (lost ++ here ∷ []) ++ drop (found + 1) list =
      e ∙ (ap (λ xs. set xs found here) (is ∙ ap (λ xs. lost ++ xs) (drop_more list found here h))
      ∙ (set_at lost _ (drop (found + 1) list) here found (sym count) ∙ sym (append_assoc lost (here ∷ []) (drop (found + 1) list)))) in (
        rs ++ Err x ∷ [],
        length_push rs (Err x) ∙ ap (λ m. m + 1) n,
        reads_more table sound (across bays first) 0 k s t u rs (Err x) (omega arith) reads read,
        f ∙ (ap (λ m. m + 1) count ∙ (sym (length_push lost here) ∙ ap length (sym more))),
        omega arith,
        next ∙ (ap (λ xs. xs ++ drop (found + 1) list) (sym more) ∙ ap (λ m. lost_cells (across bays first) 0 (rs ++ Err x ∷ []) ++ drop m list) (sym f)),
      )

  module _ (count : ℕ) (is-bays : bays ≡ (table s).bays) (none : run_refusal (table s).places first count ≡ None) where
    -- what holds of any reads of the run
    surveyed : (u : Self) (rs : List (Result ℕ Refusal)) (after : List LostCell) (r : Result ℕ Refusal) → Reads table sound (across bays first) 0 s rs u → length rs ≤ count * bays → Listed (lost_cells (across bays first) 0 rs) (length rs) (count * bays) list after r → Surveys table sound s u first count list after r
    surveyed u rs after r reads few listed =
        subst (λ (o : Option Refusal). Surveyed table sound s u first count list after o r) (sym none)
        (subst (λ b. (rs : List (Result ℕ Refusal)) × Made table sound (across b first) s rs u × Distinct (lost_cells (across b first) 0 rs) × Listed (lost_cells (across b first) 0 rs) (length rs) (count * b) list after r) is-bays (
          rs,
          reads_made table sound (across bays first) s u rs (subst (λ b. Inside (across b first) 0 (length rs) (table s)) (sym is-bays) (across_inside (table s) first count (length rs) (run_fit (table s).places first count none) (subst (λ b. length rs ≤ count * b) is-bays few))) reads,
          lost_distinct (across bays first) (across-apart bays first) 0 rs,
          listed,
        ))

    -- a lost cell that finds no room
    pub surveyed_short : (u : Self) (x : Refusal) → Outcome table sound t u (refuses_read (k % bays) (first + k / bays)) (Read (k % bays) (first + k / bays)) (Err x) → length list ≤ found → k < count * bays → Surveys table sound s u first count list list' (Err ListTooShort)
    surveyed_short u x read full h =
        let (rs, n, reads, number, room, is) = so_far in
        let lost = lost_cells (across bays first) 0 rs in
        let here = cell_at (across bays first) k in
        let more : lost_cells (across bays first) 0 (rs ++ Err x ∷ []) ≡ lost ++ here ∷ [] = lost_some (across bays first) 0 k rs x (omega arith) in
        let long = length_push rs (Err x) in
        let all : length lost ≡ length list = omega arith in
        let few : length (rs ++ Err x ∷ []) ≤ count * bays = omega arith in
        surveyed u (rs ++ Err x ∷ []) list' (Err ListTooShort)
        (reads_more table sound (across bays first) 0 k s t u rs (Err x) (omega arith) reads read) few (
          refl,
          few,
          ap length more ∙ (length_push lost here ∙ ap (λ m. m + 1) all),
          is ∙ (ap (λ xs. lost ++ xs) (drop_all found list full) ∙ (append-nil lost ∙ (sym (take_at lost (here ∷ []) (length list) all) ∙ ap (take (length list)) (sym more)))),
        )

    -- at the end of the run
    pub surveyed_all : k ≡ count * bays → Surveys table sound s t first count list list' (Ok found)
    surveyed_all e =
        let (rs, n, reads, number, room, is) = so_far in
        surveyed t rs list' (Ok found) reads (omega arith) (n ∙ e, number, room, is)
