-- A place rewritten cell by cell: the data bay, and then check after check.
use Rattle.std.proofs.Common.{◌≡◌, ℕ, ◌+◌, ◌%◌, ◌<◌, ◌≤◌, ◌≢◌, true, Ok, Err, Result, sym, refl, ap, ap₂, ◌∙◌, subst, inl, inr, ⊎_elim, mod-eq_of_lt, arith}
use Rattle.std.proofs.lemmas.Bool.{cases_lt, cases_eq}
use Rattle.field.specs.Arithmetic.{Arithmetic, Lawful}
use Rattle.plan.specs.Coefficients.{Coefficients, Fitting}
use Rattle.plan.specs.Rows.{moved}
use Rattle.shelf.specs.declared.refusal.Refusal.{Refusal}
use Rattle.shelf.specs.Table.{Table, Cell, holds, SameShape, Decayed, Kept, WordBelow}
use Rattle.shelf.specs.Calls.{Outcome, NoCell, ThisCell, ThisPlace, Read, Written, refuses_read, refuses_word}
use Rattle.shelf.proofs.Settling.{same_shape, undecayed, shape_trans, kept_trans, decayed_trans, decayed_more, held_before, read_there, word_there, when_done}
use Rattle.array.specs.Decoding.{matched}
use Rattle.array.specs.Moving.{Becomes, rewritten, Codes, MovesCheck, Rewrites}
use Rattle.array.proofs.Cells.{same_word}
use Rattle.array.proofs.Shapes.{matched_bays, matched_limit, matched_same}
use Rattle.array.proofs.Rewriting.{becomes_kept, kept_becomes, any_blank, kept_same, written_becomes, own_new, other_same, check_moved, check_same}

-- a filled cell of a place of codes holds a code
code_in : (k : Arithmetic) (c : Cell) (w : ℕ) → WordBelow k.order c → c ≡ holds w → w < k.order
code_in k c w low e = let h : WordBelow k.order (holds w) = subst (WordBelow k.order) e low in h

module _ {Self : Type 0} (table : Self → Table) (sound : Self → Type 0) (k : Arithmetic) (l : Lawful k) (x : Coefficients) (fit : Fitting k x) (i j p old new : ℕ) where
  abbrev f : ℕ → ℕ
  f = rewritten k x j old new (x.n + i)

  -- A check without the data bay keeps its word.
  pub check_apart : (s : Self) → x.f i j ≡ 0 → MovesCheck table sound k x i j p old new s s
  check_apart s none = (
    same_shape (table s),
    λ ordered match few there ho hn low. (
      ordered,
      undecayed (ThisCell (x.n + i) p) (table s),
      kept_same f ((table s).cell (x.n + i) p) ((table s).cell (x.n + i) p)
          (λ w e. check_same k x j old new l i w none ho hn (code_in k ((table s).cell (x.n + i) p) w low e)) (inl refl),
    ),
  )

  -- One that is lost stays so.
  pub check_lost : (s t : Self) (e : Refusal) → Outcome table sound s t (refuses_read (x.n + i) p) (Read (x.n + i) p) (Err e) → MovesCheck table sound k x i j p old new s t
  check_lost s t e read = (
    read.0,
    λ ordered match few there ho hn low.
        let bays = matched_bays k x (table s) match in
        let (after, done) = when_done (table s) (table t) (sound s) (sound t) (refuses_read (x.n + i) p (table s)) (Read (x.n + i) p) (Err e) (read_there (x.n + i) p (table s) (omega arith) there) read ordered in (
          after,
          decayed_more NoCell (ThisCell (x.n + i) p) (table s) (table t) (λ b p z. absurd z) done.rest,
          any_blank f ((table s).cell (x.n + i) p) ((table t).cell (x.n + i) p) done.answer.1,
        ),
  )

  -- Any other gets the moved word.
  pub check_written : (s t u : Self) (check word : ℕ) (r : Result Unit Refusal) → Outcome table sound s t (refuses_read (x.n + i) p) (Read (x.n + i) p) (Ok check)
      → word ≡ moved k x i j (check % k.order) (old % k.order) (new % k.order) → Outcome table sound t u (refuses_word (x.n + i) p word) (Written (x.n + i) p word) r → MovesCheck table sound k x i j p old new s u
  check_written s t u check word r read is write = (
    shape_trans (table s) (table t) (table u) read.0 write.0,
    λ ordered match few there ho hn low.
        let b = x.n + i in
        let q = k.order in
        let bays = matched_bays k x (table s) match in
        let limit = matched_limit k x (table s) match in
        let within : b < (table s).bays = omega arith in
        let (after, done) = when_done (table s) (table t) (sound s) (sound t) (refuses_read b p (table s)) (Read b p) (Ok check) (read_there b p (table s) within there) read ordered in
        let hc = code_in k ((table s).cell b p) check low done.answer in
        let moves : word ≡ moved k x i j check old new =
        is ∙ ap (λ c. moved k x i j c (old % q) (new % q)) (mod-eq_of_lt hc) ∙ ap₂ (moved k x i j check) (mod-eq_of_lt ho) (mod-eq_of_lt hn) in
        let below : word < q = subst (λ (y : ℕ). y < q) (sym moves) (l.add_below check _ hc (l.mul_below _ _ (fit.below i j) (l.sub_below new old hn ho))) in
        let kept = done.rest.cells b p within there (λ z. z) in
        let (last, wrote) = when_done (table t) (table u) (sound t) (sound u) (refuses_word b p word (table t)) (Written b p word) r
        (word_there b p word (table t) (let e = read.0.bays in omega arith) (let e = read.0.places in omega arith) (let e = read.0.limit in omega arith)) write after in (
          last,
          decayed_trans (ThisCell b p) (table s) (table t) (table u) (decayed_more NoCell (ThisCell b p) (table s) (table t) (λ b p z. absurd z) done.rest) wrote.rest,
          kept_becomes f ((table s).cell b p) ((table t).cell b p) ((table u).cell b p) kept
              (written_becomes f word ((table t).cell b p) ((table u).cell b p) r
              (λ w e. moves ∙ sym (check_moved k x j old new i check) ∙ ap f (same_word ((table s).cell b p) check w done.answer (held_before ((table s).cell b p) ((table t).cell b p) w e kept)))
              wrote.answer),
        ),
  )

-- After the first n bays of a place: s is the table below before, t the table below then.
pub record Progress (k : Arithmetic) (x : Coefficients) (j p old new n : ℕ) (s t : Table) : Type 0 where
  pub rest : Decayed (ThisPlace p) s t
  pub written : (b : ℕ) → b < n → b < x.n + x.m → Becomes (rewritten k x j old new b) (s.cell b p) (t.cell b p)
  pub others : (b : ℕ) → n ≤ b → b < x.n + x.m → Kept (s.cell b p) (t.cell b p)

-- the same between two states of a shelf that matches the plan
abbrev pub Rewriting : {Self : Type 0} → (Self → Table) → (Self → Type 0) → Arithmetic → Coefficients → ℕ → ℕ → ℕ → ℕ → ℕ → Self → Self → Type 0
Rewriting table sound k x j p old new n before after =
    SameShape (table before) (table after)
    × (sound before → matched k x (table before) ≡ true → j < x.n → p < (table before).places → old < k.order → new < k.order → Codes k x p (table before) →
    sound after × Progress k x j p old new n (table before) (table after))

module _ {Self : Type 0} (table : Self → Table) (sound : Self → Type 0) (k : Arithmetic) (x : Coefficients) (j p old new : ℕ) (s : Self) where
  -- the data bays: one was written
  pub first_written : (t : Self) (r : Result Unit Refusal) → Outcome table sound s t (refuses_word j p new) (Written j p new) r → Rewriting table sound k x j p old new x.n s t
  first_written t r write = (
    write.0,
    λ ordered match d there ho hn low.
        let bays = matched_bays k x (table s) match in
        let limit = matched_limit k x (table s) match in
        let (after, wrote) = when_done (table s) (table t) (sound s) (sound t) (refuses_word j p new (table s)) (Written j p new) r
        (word_there j p new (table s) (omega arith) there (omega arith)) write ordered in (
          after,
          record {
            rest = decayed_more (ThisCell j p) (ThisPlace p) (table s) (table t) (λ b p' at. at.1) wrote.rest;
            written = λ b early few. elim (cases_eq b j) [
              | inl same ↦
                  subst (λ b. Becomes (rewritten k x j old new b) ((table s).cell b p) ((table t).cell b p)) (sym same)
                  (written_becomes (rewritten k x j old new j) new ((table s).cell j p) ((table t).cell j p) r (λ w e. sym (own_new k x j old new w d)) wrote.answer)
              | inr away ↦
                  kept_same (rewritten k x j old new b) ((table s).cell b p) ((table t).cell b p) (λ w e. other_same k x j old new b w early away)
                  (wrote.rest.cells b p (omega arith) there (λ at. away at.0))
            ];
            others = λ b late few. wrote.rest.cells b p (omega arith) there (λ at. let e = at.0 in let z : ⊥ = omega arith in z);
          },
        ),
  )

  -- one check more
  pub next_check : (i : ℕ) (t u : Self) → i < x.m → Rewriting table sound k x j p old new (x.n + i) s t → MovesCheck table sound k x i j p old new t u → Rewriting table sound k x j p old new (x.n + (i + 1)) s u
  next_check i t u few all move = (
    shape_trans (table s) (table t) (table u) all.0 move.0,
    λ ordered match d there ho hn low.
        let b' = x.n + i in
        let (after, so_far) = all.1 ordered match d there ho hn low in
        let bays = matched_bays k x (table s) match in
        let there' : p < (table t).places = (let e = all.0.places in omega arith) in
        let low' : WordBelow k.order ((table t).cell b' p) =
        ⊎_elim (λ e. subst (WordBelow k.order) (sym e) (low b' (omega arith))) (λ e. subst (WordBelow k.order) (sym e) tt) (so_far.others b' (omega arith) (omega arith)) in
        let (last, rest, became) = move.1 after (matched_same k x (table s) (table t) all.0 ∙ match) few there' ho hn low' in
        let elsewhere : (b : ℕ) → b < x.n + x.m → b ≢ b' → Kept ((table t).cell b p) ((table u).cell b p) =
        λ b d away. rest.cells b p (let e = all.0.bays in omega arith) there' (λ at. away at.0) in (
          last,
          record {
            rest = decayed_trans (ThisPlace p) (table s) (table t) (table u) so_far.rest (decayed_more (ThisCell b' p) (ThisPlace p) (table t) (table u) (λ b p' at. at.1) rest);
            written = λ b early within. elim (cases_lt b b') [
              | inl before ↦
                  becomes_kept (rewritten k x j old new b) ((table s).cell b p) ((table t).cell b p) ((table u).cell b p) (so_far.written b before within)
                  (elsewhere b within (λ e. let z : ⊥ = omega arith in z))
              | inr here ↦
                  let at : b' ≡ b = omega arith in
                  subst (λ b. Becomes (rewritten k x j old new b) ((table s).cell b p) ((table u).cell b p)) at
                  (kept_becomes (rewritten k x j old new b') ((table s).cell b' p) ((table t).cell b' p) ((table u).cell b' p) (so_far.others b' (omega arith) (omega arith)) became)
            ];
            others = λ b late within.
                kept_trans ((table s).cell b p) ((table t).cell b p) ((table u).cell b p) (so_far.others b (omega arith) within) (elsewhere b within (λ e. let z : ⊥ = omega arith in z));
          },
        ),
  )

  -- after the last check
  pub all_rewritten : (t : Self) → Rewriting table sound k x j p old new (x.n + x.m) s t → Rewrites table sound k x j p old new s t
  all_rewritten t all = (
    all.0,
    λ ordered match d there ho hn low.
        let (after, done) = all.1 ordered match d there ho hn low in
        (after, record { rest = done.rest; cells = λ b few. done.written b few few }),
  )
