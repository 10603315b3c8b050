-- The words of a place, one bay read more at a time.
use Rattle.std.proofs.Common.{◌≡◌, ℕ, ◌+◌, ◌<◌, ◌≤◌, ◌≢◌, List, [], ◌∷◌, ◌++◌, length, Ok, Err, Result, sym, ◌∙◌, subst, inl, inr, ⊎_elim, arith}
use Rattle.std.specs.List.{Contains}
use Rattle.std.proofs.lemmas.Bool.{cases_lt}
use Rattle.std.proofs.lemmas.List.{length_push}
use Rattle.std.proofs.lemmas.List.Elements.{Contains-push, Contains-push_cases, Contains-append_left}
use Rattle.plan.specs.Coefficients.{Coefficients}
use Rattle.shelf.specs.declared.refusal.Refusal.{Refusal}
use Rattle.shelf.specs.Table.{Table, blank, holds}
use Rattle.shelf.specs.Calls.{Outcome, Read, refuses_read, NoCell}
use Rattle.shelf.proofs.Settling.{same_shape, shape_trans, undecayed, decayed_trans, held_before, read_there, when_done}
use Rattle.linear.specs.declared.equation.Equation.{Equation}
use Rattle.array.specs.Finding.{bay_word, adding, Gathered, Gathers}
use Rattle.array.proofs.Cells.{not_both, same_word}

-- no more equations than bays were read
adding_few : (x : Coefficients) (b n : ℕ) (r : Result ℕ Refusal) (es : List Equation) → length es ≤ n → length (adding x b r es) ≤ n + 1
adding_few x b n (Ok w) es h = let long = length_push es (bay_word x b w) in omega arith
adding_few x b n (Err e) es h = omega arith

module _ (x : Coefficients) (p without : ℕ) where
  -- nothing is said where no bay was read
  gathered_none : (s : Table) → Gathered x p without 0 s s []
  gathered_none s = record {
    rest = undecayed NoCell s;
    held = λ e (i, within, is). absurd (let z : ⊥ = omega arith in z);
    each = λ b w d other h. absurd (let z : ⊥ = omega arith in z);
  }

  module _ (n : ℕ) (s t : Table) (es : List Equation) (h : Gathered x p without n s t es) where
    -- the bay that is left out adds nothing
    gathered_out : n ≡ without → Gathered x p without (n + 1) s t es
    gathered_out is = record {
      rest = h.rest;
      held = λ e among. let (b, w, d, had, same) = h.held e among in (b, w, omega arith, had, same);
      each = λ b w d other has. h.each b w (let away : b ≢ n = λ e. other (e ∙ is) in less b n d away) other has;
    }
      where
        less : (b n : ℕ) → b < n + 1 → b ≢ n → b < n
        less b n d away = ⊎_elim (λ i. i) (λ i. absurd (away (omega arith))) (cases_lt b n)

    module _ (u : Table) (within : n < s.bays) (there : p < s.places) where
      -- a read that gave a word adds the row of its bay,
      gathered_word : (w : ℕ) → Read n p t u (Ok w) → Gathered x p without (n + 1) s u (es ++ bay_word x n w ∷ [])
      gathered_word w read = record {
        rest = decayed_trans NoCell s t u h.rest read.rest;
        held = λ e among. elim (Contains-push_cases es (bay_word x n w) e among) [
          | inl before ↦ let (b, v, d, had, same) = h.held e before in (b, v, omega arith, had, same)
          | inr last ↦ (n, w, omega arith, held_before (s.cell n p) (t.cell n p) w read.answer (h.rest.cells n p within there (λ z. z)), sym last)
        ];
        each = λ b v d other has.
            let d' : b ≤ n = omega arith in
            let was : t.cell b p ≡ holds v = held_before (t.cell b p) (u.cell b p) v has (read.rest.cells b p (let e = h.rest.shape.bays in omega arith) (let e = h.rest.shape.places in omega arith) (λ z. z)) in
            elim (cases_lt b n) [
              | inl earlier ↦ Contains-append_left es (bay_word x n w ∷ []) (bay_word x b v) (h.each b v earlier other was)
              | inr here ↦
                  let at : n ≡ b = omega arith in
                  let is : w ≡ v = same_word (t.cell b p) w v (subst (λ b. t.cell b p ≡ holds w) at read.answer) was in
                  subst (λ b. Contains (es ++ bay_word x n w ∷ []) (bay_word x b v)) at
                  (subst (λ v. Contains (es ++ bay_word x n w ∷ []) (bay_word x n v)) is (Contains-push es (bay_word x n w)))
            ];
      }

      -- and one that gave none leaves them as they are: its cell is blank.
      gathered_blank : (e : Refusal) → Read n p t u (Err e) → Gathered x p without (n + 1) s u es
      gathered_blank e read = record {
        rest = decayed_trans NoCell s t u h.rest read.rest;
        held = λ e among. let (b, w, d, had, same) = h.held e among in (b, w, omega arith, had, same);
        each = λ b v d other has.
            let d' : b ≤ n = omega arith in
            let was : t.cell b p ≡ holds v = held_before (t.cell b p) (u.cell b p) v has (read.rest.cells b p (let e = h.rest.shape.bays in omega arith) (let e = h.rest.shape.places in omega arith) (λ z. z)) in
            elim (cases_lt b n) [
              | inl earlier ↦ h.each b v earlier other was
              | inr here ↦
                  let at : n ≡ b = omega arith in
                  absurd (not_both (u.cell b p) v (subst (λ b. u.cell b p ≡ blank) at (read.answer.1)) has)
            ];
      }

      gathered_read : (r : Result ℕ Refusal) → Read n p t u r → Gathered x p without (n + 1) s u (adding x n r es)
      gathered_read (Ok w) read = gathered_word w read
      gathered_read (Err e) read = gathered_blank e read

module _ {Self : Type 0} (table : Self → Table) (sound : Self → Type 0) (x : Coefficients) (p without : ℕ) where
  -- before the first bay
  pub first_words : (s : Self) → Gathers table sound x p without 0 s s []
  first_words s = (same_shape (table s), omega arith, λ h few there. (h, gathered_none x p without (table s)))

  module _ (n : ℕ) (s t : Self) (es : List Equation) (h : Gathers table sound x p without n s t es) where
    -- the bay that is left out
    pub next_skip : n ≡ without → Gathers table sound x p without (n + 1) s t es
    next_skip is = (
      h.0,
      let few = h.1 in omega arith,
      λ ordered few there.
          let (after, all) = h.2 ordered (omega arith) there in (after, gathered_out x p without n (table s) (table t) es all is),
    )

    -- another bay
    pub next_read : (u : Self) (r : Result ℕ Refusal) (es' : List Equation) → es' ≡ adding x n r es → Outcome table sound t u (refuses_read n p) (Read n p) r → Gathers table sound x p without (n + 1) s u es'
    next_read u r es' is read =
        subst (Gathers table sound x p without (n + 1) s u) (sym is) (
          shape_trans (table s) (table t) (table u) h.0 read.0,
          adding_few x n n r es h.1,
          λ ordered few there.
              let (after, all) = h.2 ordered (omega arith) there in
              let within : n < (table t).bays = (let e = h.0.bays in omega arith) in
              let there' : p < (table t).places = (let e = h.0.places in omega arith) in
              let (still, done) = when_done (table t) (table u) (sound t) (sound u) (refuses_read n p (table t)) (Read n p) r (read_there n p (table t) within there') read after in
              (still, gathered_read x p without n (table s) (table t) es all (table u) (omega arith) there r done),
        )
