-- What the words of a place tell of a bay.
use Rattle.std.proofs.Common.{◌≡◌, ℕ, ◌+◌, ◌<◌, ◌≢◌, List, take, get_or, Option, Some, None, Ok, Err, Result, sym, refl, ◌∙◌, subst, mod-eq_of_lt, arith}
use Rattle.std.specs.List.{All}
use Rattle.std.specs.Prelude.{⊤}
use Rattle.std.specs.Option.{ok_or}
use Rattle.std.proofs.lemmas.List.Elements.{All-contains, Contains-get_or}
use Rattle.field.specs.Arithmetic.{Arithmetic, Lawful}
use Rattle.plan.specs.Bounds.{most_data}
use Rattle.plan.specs.Coefficients.{Coefficients, Fitting}
use Rattle.plan.specs.Rows.{row, whole_row, dot, Vector}
use Rattle.plan.proofs.Dots.{vector_codes, dot_below}
use Rattle.plan.proofs.Padding.{front_vector, padded, padded_vector}
use Rattle.plan.proofs.Rows.{row-codes}
use Rattle.plan.proofs.Vectors.{plus, plus_vector}
use Rattle.shelf.specs.declared.refusal.Refusal.{Refusal}
use Rattle.shelf.specs.declared.refusal.Refusal.TheVariants.{Lost}
use Rattle.shelf.specs.Table.{Table, Cell, blank, holds}
use Rattle.shelf.specs.Calls.{Outcome, Read, refuses_read, NoCell}
use Rattle.shelf.proofs.Settling.{shape_trans, decayed_trans, blank_stays, read_there, when_done}
use Rattle.linear.specs.declared.equation.Equation.{Equation}
use Rattle.linear.specs.Equations.{gives, Satisfies, Told, Open, Verdict}
use Rattle.linear.proofs.Telling.{gives_front, gives_padded}
use Rattle.array.specs.Decoding.{Gives, Agrees, Allows, AllowsMore}
use Rattle.array.specs.Finding.{bay_word, Gathered, Gathers, WordAnswer, Finds}
use Rattle.array.proofs.Adding.{gives_plus, zero_between}
use Rattle.array.proofs.Cells.{not_both}
use Rattle.array.proofs.Shapes.{matched_bays, matched_same}
use Rattle.array.proofs.Decay.{KeptPlace, kept_place, allows_still}

module _ (k : Arithmetic) (l : Lawful k) (x : Coefficients) (fit : Fitting k x) (p b : ℕ) (s t : Table) (es : List Equation) (h : Gathered x p b (x.n + x.m) s t es) where
  -- A vector that agreed with the place satisfies the equations.
  agreeing_satisfies : (v : List ℕ) → Agrees k x s p v → All (Satisfies k (padded k l x fit v)) es
  agreeing_satisfies v hv i d within =
      let (c, w, few, had, is) = h.held (get_or es i d) (Contains-get_or es i d within) in
      let gave : w ≡ dot k (row x c) v = subst (Gives k x c v) had (hv.gives c few) in
      let below = dot_below k l (row x c) v (row-codes k l x fit c) (vector_codes k l x.n v hv.vector) in
      subst (Satisfies k (padded k l x fit v)) (sym is)
      (gives_padded k l x fit c v hv.vector ∙ sym gave ∙ sym (mod-eq_of_lt (subst (λ (y : ℕ). y < k.order) (sym gave) below)))

  -- So a told word is what it gives.
  told_one : (w : ℕ) → Told k es (whole_row x b) w → (u : ℕ) → Allows k x s b p u → u ≡ w
  told_one w told u (v, hv, is) =
      sym is ∙ sym (gives_padded k l x fit b v hv.vector) ∙ told.1 (padded k l x fit v) (padded_vector_of v hv) (agreeing_satisfies v hv)
    where
      padded_vector_of : (v : List ℕ) → Agrees k x s p v → Vector k most_data (padded k l x fit v)
      padded_vector_of v hv = padded_vector k l x fit v hv.vector

  module _ (empty : t.cell b p ≡ blank) (open_ : Open k es (whole_row x b)) (v : List ℕ) (hv : Agrees k x t p v) where
    abbrev z : List ℕ
    z = take x.n open_.0

    hz : Vector k x.n z
    hz = front_vector k l x fit open_.0 open_.1

    -- The vector that shows that the row is open gives zero for each cell that is filled yet.
    zero_filled : (c w : ℕ) → c < x.n + x.m → t.cell c p ≡ holds w → dot k (row x c) z ≡ 0
    zero_filled c w few has =
        let other : c ≢ b = λ e. not_both (t.cell c p) w (subst (λ b. t.cell b p ≡ blank) (sym e) empty) has in
        sym (gives_front k l x fit c open_.0 open_.1) ∙ All-contains (λ e. gives k e.row open_.0 ≡ 0) es (bay_word x c w) open_.2 (h.each c w few other has)

    -- Added to a vector that agrees it makes one that agrees too,
    sum_gives : (c : ℕ) → c < x.n + x.m → (cell : Cell) → t.cell c p ≡ cell → Gives k x c v cell → Gives k x c (plus k l x.n v z) cell
    sum_gives c few blank is gave = tt
    sum_gives c few (holds w) is gave = gives_plus k l x fit c v z hv.vector hz w gave (zero_filled c w few is)

    sum_agrees : Agrees k x t p (plus k l x.n v z)
    sum_agrees = record {
      vector = plus_vector k l x.n v z hv.vector hz;
      gives = λ c few. sum_gives c few (t.cell c p) refl (hv.gives c few);
    }

    -- with another word for the bay.
    open_more : AllowsMore k x t b p
    open_more = (
      dot k (row x b) v,
      dot k (row x b) (plus k l x.n v z),
      (v, hv, refl),
      (plus k l x.n v z, sum_agrees, refl),
      λ same. open_.3 (gives_front k l x fit b open_.0 open_.1 ∙ zero_between k l x fit b v z hv.vector hz same),
    )

  -- The verdict on the equations answers for the bay.
  verdict_answers : t.cell b p ≡ blank → (o : Option ℕ) → Verdict k es (whole_row x b) o → WordAnswer k x b p s t (ok_or o Lost)
  verdict_answers empty (Some w) told = told_one w told
  verdict_answers empty None open_ = (refl, λ u (v, hv, is). open_more empty open_ v hv)

module _ {Self : Type 0} (table : Self → Table) (sound : Self → Type 0) (k : Arithmetic) (l : Lawful k) (x : Coefficients) (fit : Fitting k x) (b p : ℕ) (s t : Self) where
  -- The other cells of the place tell the word of a blank one, or lose it.
  pub told_found : (es : List Equation) (target : List ℕ) (o : Option ℕ) (r : Result ℕ Refusal) → Gathers table sound x p b (x.n + x.m) s t es → target ≡ whole_row x b → Verdict k es target o → r ≡ ok_or o Lost → Finds table sound k x b p s t ((table s).cell b p ≡ blank) r
  told_found es target o r all at verdict is = (
    all.0,
    λ ordered match bay place empty.
        let (after, gathered) = all.2 ordered (let e = matched_bays k x (table s) match in omega arith) place in
        let blank_after : (table t).cell b p ≡ blank = blank_stays ((table s).cell b p) ((table t).cell b p) empty (gathered.rest.cells b p bay place (λ z. z)) in (
          after,
          record {
            rest = gathered.rest;
            answer = subst (WordAnswer k x b p (table s) (table t)) (sym is)
                (verdict_answers k l x fit p b (table s) (table t) es gathered blank_after o (subst (λ row. Verdict k es row o) at verdict));
          },
        ),
  )

  -- A cell that gave its word allows no other.
  own_word : (w : ℕ) → Read b p (table s) (table t) (Ok w) → b < x.n + x.m → (u : ℕ) → Allows k x (table s) b p u → u ≡ w
  own_word w read few u (v, hv, is) = sym is ∙ sym (let gave : w ≡ dot k (row x b) v = subst (Gives k x b v) read.answer (hv.gives b few) in gave)

  pub own_found : (w : ℕ) → Outcome table sound s t (refuses_read b p) (Read b p) (Ok w) → Finds table sound k x b p s t ⊤ (Ok w)
  own_found w read = (
    read.0,
    λ ordered match bay place _.
        let (after, done) = when_done (table s) (table t) (sound s) (sound t) (refuses_read b p (table s)) (Read b p) (Ok w) (read_there b p (table s) bay place) read ordered in
        (after, record { rest = done.rest; answer = own_word w done (let e = matched_bays k x (table s) match in omega arith) }),
  )

  -- Where it gave none it is blank, and the other cells answer for it.
  pub other_found : (u : Self) (e : Refusal) (r : Result ℕ Refusal) → Outcome table sound s t (refuses_read b p) (Read b p) (Err e) → Finds table sound k x b p t u ((table t).cell b p ≡ blank) r → Finds table sound k x b p s u ⊤ r
  other_found u e r read others = (
    shape_trans (table s) (table t) (table u) read.0 others.0,
    λ ordered match bay place _.
        let (after, done) = when_done (table s) (table t) (sound s) (sound t) (refuses_read b p (table s)) (Read b p) (Err e) (read_there b p (table s) bay place) read ordered in
        let (last, found) = others.1 after (matched_same k x (table s) (table t) read.0 ∙ match) (let e = read.0.bays in omega arith) (let e = read.0.places in omega arith) done.answer.1 in
        let kept = kept_place k x NoCell (table s) (table t) p done.rest (matched_bays k x (table s) match) place (λ b z. z) in
        (last, record { rest = decayed_trans NoCell (table s) (table t) (table u) done.rest found.rest; answer = earlier kept r found.answer }),
  )
    where
      earlier : KeptPlace k x (table s) (table t) p → (r : Result ℕ Refusal) → WordAnswer k x b p (table t) (table u) r → WordAnswer k x b p (table s) (table u) r
      earlier kept (Ok w) one = λ v allowed. one v (allows_still k x (table s) (table t) p kept b v allowed)
      earlier kept (Err e) lost = lost
