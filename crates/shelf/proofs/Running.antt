-- Runs of reads, one read more at a time, and what all of them say together.
use Rattle.std.proofs.Common.{◌≡◌, ℕ, zero, suc, ◌+◌, ◌<◌, ◌≤◌, List, [], ◌∷◌, ◌++◌, length, get_or, set, Some, None, Ok, Err, Option, Result, unwrap_or, sym, refl, ap, ◌∙◌, subst, arith}
use Rattle.shelf.specs.declared.refusal.Refusal.{Refusal}
use Rattle.shelf.specs.declared.refusal.Refusal.TheVariants.{Lost}
use Rattle.shelf.specs.declared.lost.LostCell.{LostCell}
use Rattle.shelf.specs.Table.{Table, Cell, SameShape, Decayed, Kept}
use Rattle.shelf.specs.Calls.{Outcome, Read, ReadAnswer, refuses_read, NoCell}
use Rattle.shelf.specs.Reads.{Reads, Made, words_in, over, lost_cells, Distinct}
use Rattle.shelf.proofs.Settling.{same_shape, shape_trans, undecayed, decayed_trans, blank_stays, held_before, read_there, when_done}

module _ {Self : Type 0} (table : Self → Table) (sound : Self → Type 0) (at : ℕ → ℕ × ℕ) where
  -- one read after the others, of the j-th cell
  pub reads_more : (k j : ℕ) (s t u : Self) (rs : List (Result ℕ Refusal)) (r : Result ℕ Refusal) → k + length rs ≡ j → Reads table sound at k s rs t → Outcome table sound t u (refuses_read (at j).0 (at j).1) (Read (at j).0 (at j).1) r → Reads table sound at k s (rs ++ r ∷ []) u
  reads_more k j s t u [] r is e h = (
    u,
    subst (λ (x : Self). Outcome table sound x u (refuses_read (at k).0 (at k).1) (Read (at k).0 (at k).1) r) e
        (subst (λ m. Outcome table sound t u (refuses_read (at m).0 (at m).1) (Read (at m).0 (at m).1) r) (omega arith) h),
    refl,
  )
  reads_more k j s t u (q ∷ rs) r is (n, first, others) h = (n, first, reads_more (k + 1) j n t u rs r (omega arith) others h)

  -- the shape stays
  pub reads_shape : (k : ℕ) (s t : Self) (rs : List (Result ℕ Refusal)) → Reads table sound at k s rs t → SameShape (table s) (table t)
  reads_shape k s t [] e = subst (λ (x : Self). SameShape (table s) (table x)) (sym e) (same_shape (table s))
  reads_shape k s t (r ∷ rs) (n, first, others) = shape_trans (table s) (table n) (table t) first.0 (reads_shape (k + 1) n t rs others)

-- an answer stays right where cells go blank after it
answer_later : (x y z : Cell) (r : Result ℕ Refusal) → ReadAnswer x y r → Kept y z → ReadAnswer x z r
answer_later x y z (Ok w) h k = h
answer_later x y z (Err e) h k = (h.0, blank_stays y z h.1 k)

-- and where they went blank before it
answer_earlier : (x y z : Cell) (r : Result ℕ Refusal) → Kept x y → ReadAnswer y z r → ReadAnswer x z r
answer_earlier x y z (Ok w) k h = held_before x y w h k
answer_earlier x y z (Err e) k h = h

-- all n cells of the run, from the k-th on, are cells of the shelf
abbrev pub Inside : (ℕ → ℕ × ℕ) → ℕ → ℕ → Table → Type 0
Inside at k n s = (i j : ℕ) → i < n → k + i ≡ j → ((at j).0 < s.bays) × ((at j).1 < s.places)

-- and so are those after the first, whose shape is the same
inside_next : (at : ℕ → ℕ × ℕ) (k n : ℕ) (s t : Table) → SameShape s t → Inside at k (suc n) s → Inside at (k + 1) n t
inside_next at k n s t e h i j l is =
    let w = h (suc i) j (omega arith) (omega arith) in
    (subst (λ m. (at j).0 < m) (sym e.bays) w.0, subst (λ m. (at j).1 < m) (sym e.places) w.1)

module _ {Self : Type 0} (table : Self → Table) (sound : Self → Type 0) (at : ℕ → ℕ × ℕ) where
  -- What the reads say together, from the first table to the last: the first read by its own promise, the others by induction.
  pub reads_all : (k : ℕ) (s t : Self) (rs : List (Result ℕ Refusal)) → Inside at k (length rs) (table s) → Reads table sound at k s rs t → sound s → sound t × (Decayed NoCell (table s) (table t) × ((i j : ℕ) → i < length rs → k + i ≡ j → ReadAnswer ((table s).cell (at j).0 (at j).1) ((table t).cell (at j).0 (at j).1) (get_or rs i (Err Lost))))
  reads_all k s t [] inside e h =
      (subst sound (sym e) h, (subst (λ (x : Self). Decayed NoCell (table s) (table x)) (sym e) (undecayed NoCell (table s)), λ i j l is. absurd (omega (arith, l))))
  reads_all k s t (r ∷ rs) inside (n, first, others) h =
      let here = inside 0 k (omega arith) (omega arith) in
      let none = read_there (at k).0 (at k).1 (table s) here.0 here.1 in
      let one = when_done (table s) (table n) (sound s) (sound n) (refuses_read (at k).0 (at k).1 (table s)) (Read (at k).0 (at k).1) r none first h in
      let all = reads_all (k + 1) n t rs (inside_next at k (length rs) (table s) (table n) first.0 inside) others one.0 in
      (all.0, (decayed_trans NoCell (table s) (table n) (table t) one.1.rest all.1.0, answers here one all))
    where
      answers : ((at k).0 < (table s).bays) × ((at k).1 < (table s).places) → sound n × Read (at k).0 (at k).1 (table s) (table n) r → sound t × (Decayed NoCell (table n) (table t) × ((i j : ℕ) → i < length rs → (k + 1) + i ≡ j → ReadAnswer ((table n).cell (at j).0 (at j).1) ((table t).cell (at j).0 (at j).1) (get_or rs i (Err Lost)))) → (i j : ℕ) → i < suc (length rs) → k + i ≡ j → ReadAnswer ((table s).cell (at j).0 (at j).1) ((table t).cell (at j).0 (at j).1) (get_or (r ∷ rs) i (Err Lost))
      answers here one all zero j l is =
          let same : k ≡ j = omega arith in
          subst (λ m. ReadAnswer ((table s).cell (at m).0 (at m).1) ((table t).cell (at m).0 (at m).1) r) same
          (answer_later ((table s).cell (at k).0 (at k).1) ((table n).cell (at k).0 (at k).1) ((table t).cell (at k).0 (at k).1) r one.1.answer
          (all.1.0.cells (at k).0 (at k).1 (subst (λ m. (at k).0 < m) (sym first.0.bays) here.0) (subst (λ m. (at k).1 < m) (sym first.0.places) here.1) (λ x. x)))
      answers here one all (suc i) j l is =
          let w = inside (suc i) j l is in
          answer_earlier ((table s).cell (at j).0 (at j).1) ((table n).cell (at j).0 (at j).1) ((table t).cell (at j).0 (at j).1) (get_or rs i (Err Lost))
          (one.1.rest.cells (at j).0 (at j).1 w.0 w.1 (λ x. x))
          (all.1.1 i j (omega arith) (omega arith))

  -- the whole of it, from the first cell on
  pub reads_made : (s t : Self) (rs : List (Result ℕ Refusal)) → Inside at 0 (length rs) (table s) → Reads table sound at 0 s rs t → Made table sound at s rs t
  reads_made s t rs inside h =
      (h, λ x. let all = reads_all 0 s t rs inside h x in (all.0, record { rest = all.1.0; answers = λ i l. all.1.1 i i l (omega arith) }))

-- What one answer more puts over a buffer.

-- a value is put at the next index,
pub over_some : (f : Result ℕ Refusal → Option ℕ) (rs : List (Result ℕ Refusal)) (r : Result ℕ Refusal) (v i : ℕ) (xs : List ℕ) → f r ≡ Some v → length rs ≡ i → i < length xs → over f (rs ++ r ∷ []) xs ≡ set (over f rs xs) i v
over_some f [] r v i [] e n h = absurd (omega (arith, h))
over_some f [] r v zero (x ∷ xs) e n h = ap (λ o. unwrap_or o x ∷ xs) e
over_some f [] r v (suc i) (x ∷ xs) e n h = absurd (omega (arith, n))
over_some f (q ∷ rs) r v i [] e n h = absurd (omega (arith, h))
over_some f (q ∷ rs) r v zero (x ∷ xs) e n h = absurd (omega (arith, n))
over_some f (q ∷ rs) r v (suc i) (x ∷ xs) e n h = ap (λ ys. unwrap_or (f q) x ∷ ys) (over_some f rs r v i xs e (omega arith) (omega arith))

-- and nothing changes where there is none
pub over_none : (f : Result ℕ Refusal → Option ℕ) (rs : List (Result ℕ Refusal)) (r : Result ℕ Refusal) (xs : List ℕ) → f r ≡ None → over f (rs ++ r ∷ []) xs ≡ over f rs xs
over_none f [] r [] e = refl
over_none f [] r (x ∷ xs) e = ap (λ o. unwrap_or o x ∷ xs) e
over_none f (q ∷ rs) r [] e = refl
over_none f (q ∷ rs) r (x ∷ xs) e = ap (λ ys. unwrap_or (f q) x ∷ ys) (over_none f rs r xs e)

-- How many words came, with one answer more.

-- a word counts one more, and a lost place none
pub words_some : (rs : List (Result ℕ Refusal)) (w : ℕ) → words_in (rs ++ Ok w ∷ []) ≡ words_in rs + 1
words_some [] w = refl
words_some (Ok v ∷ rs) w = ap (λ n. 1 + n) (words_some rs w) ∙ omega arith
words_some (Err e ∷ rs) w = words_some rs w

pub words_none : (rs : List (Result ℕ Refusal)) (x : Refusal) → words_in (rs ++ Err x ∷ []) ≡ words_in rs
words_none [] x = refl
words_none (Ok v ∷ rs) x = ap (λ n. 1 + n) (words_none rs x)
words_none (Err e ∷ rs) x = words_none rs x

-- there are no more words than answers
pub words_bound : (rs : List (Result ℕ Refusal)) → words_in rs ≤ length rs
words_bound [] = omega arith
words_bound (Ok w ∷ rs) = let h = words_bound rs in omega arith
words_bound (Err e ∷ rs) = let h = words_bound rs in omega arith

-- The lost cells, with one answer more.

-- the record of the k-th cell
abbrev pub cell_at : (ℕ → ℕ × ℕ) → ℕ → LostCell
cell_at at k = record { bay = (at k).0; place = (at k).1 }

-- a word adds no cell, and a lost one adds its own at the end
pub lost_none : (at : ℕ → ℕ × ℕ) (k : ℕ) (rs : List (Result ℕ Refusal)) (w : ℕ) → lost_cells at k (rs ++ Ok w ∷ []) ≡ lost_cells at k rs
lost_none at k [] w = refl
lost_none at k (Ok v ∷ rs) w = lost_none at (k + 1) rs w
lost_none at k (Err e ∷ rs) w = ap (λ xs. cell_at at k ∷ xs) (lost_none at (k + 1) rs w)

pub lost_some : (at : ℕ → ℕ × ℕ) (k j : ℕ) (rs : List (Result ℕ Refusal)) (x : Refusal) → k + length rs ≡ j → lost_cells at k (rs ++ Err x ∷ []) ≡ lost_cells at k rs ++ cell_at at j ∷ []
lost_some at k j [] x is = let e : k ≡ j = omega arith in ap (λ m. cell_at at m ∷ []) e
lost_some at k j (Ok v ∷ rs) x is = lost_some at (k + 1) j rs x (omega arith)
lost_some at k j (Err e ∷ rs) x is = ap (λ xs. cell_at at k ∷ xs) (lost_some at (k + 1) j rs x (omega arith))

-- each of them is the cell of some index from k on
lost_from : (at : ℕ → ℕ × ℕ) (k : ℕ) (rs : List (Result ℕ Refusal)) (j : ℕ) (d : LostCell) → j < length (lost_cells at k rs) → (m : ℕ) × (k ≤ m) × (get_or (lost_cells at k rs) j d ≡ cell_at at m)
lost_from at k [] j d h = absurd (omega (arith, h))
lost_from at k (Ok w ∷ rs) j d h = let (m, l, e) = lost_from at (k + 1) rs j d h in (m, omega arith, e)
lost_from at k (Err e ∷ rs) zero d h = (k, omega arith, refl)
lost_from at k (Err e ∷ rs) (suc j) d h = let (m, l, q) = lost_from at (k + 1) rs j d (omega arith) in (m, omega arith, q)

-- so none comes twice, where no two indices have one cell
pub lost_distinct : (at : ℕ → ℕ × ℕ) → ((m n : ℕ) → cell_at at m ≡ cell_at at n → m ≡ n) → (k : ℕ) (rs : List (Result ℕ Refusal)) → Distinct (lost_cells at k rs)
lost_distinct at apart k [] i j d l h = absurd (omega (arith, h))
lost_distinct at apart k (Ok w ∷ rs) i j d l h = lost_distinct at apart (k + 1) rs i j d l h
lost_distinct at apart k (Err e ∷ rs) i zero d l h = absurd (omega (arith, l))
lost_distinct at apart k (Err e ∷ rs) zero (suc j) d l h =
    λ same. let (m, le, q) = lost_from at (k + 1) rs j d (omega arith) in let is = apart k m (same ∙ q) in omega arith
lost_distinct at apart k (Err e ∷ rs) (suc i) (suc j) d l h = lost_distinct at apart (k + 1) rs i j d (omega arith) (omega arith)
