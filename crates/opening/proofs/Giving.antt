-- Whether some data vector gives all of the words of a place.
use Rattle.std.proofs.Common.{◌≡◌, ℕ, ◌+◌, ◌-◌, ◌%◌, ◌<◌, Bool, true, false, true≢false, List, length, take, get_or, Option, Some, None, sym, refl, ap, ◌∙◌, subst, inl, inr, mod-eq_of_lt, arith}
use Rattle.std.specs.Bool.{MatchBool}
use Rattle.std.specs.List.{list_all}
use Rattle.std.proofs.lemmas.Bool.{cases_lt, eq-eqb, eqb-true, lt-ltb, ltb-true}
use Rattle.std.proofs.lemmas.List.{get_or_default, ext_get_or}
use Rattle.std.proofs.lemmas.List.Sums.{AllPass-from_list_all, list_all-from_AllPass}
use Rattle.field.specs.Arithmetic.{Arithmetic, Lawful}
use Rattle.plan.specs.Bounds.{most_data}
use Rattle.plan.specs.Coefficients.{Coefficients, Fitting}
use Rattle.plan.specs.Rows.{row, dot, codes, check_on, Vector}
use Rattle.plan.proofs.CheckWords.{codes_same}
use Rattle.plan.proofs.DataRows.{dot-data}
use Rattle.plan.proofs.Dots.{vector_codes, dot_below}
use Rattle.plan.proofs.Padding.{front_vector, padded, padded_vector}
use Rattle.plan.proofs.Rows.{row-codes}
use Rattle.linear.specs.declared.equation.Equation.{Equation}
use Rattle.linear.specs.Equations.{Satisfiable}
use Rattle.linear.proofs.Telling.{gives_front, gives_padded}
use Rattle.opening.specs.Words.{word_at, GivesWord, GivesWords, Given, is_code, DataWords, check_holds, EquationsOf}

module _ (k : Arithmetic) (l : Lawful k) (x : Coefficients) (fit : Fitting k x) (cells : List (Option ℕ)) (long : length cells ≡ x.n + x.m) where
  -- A word that a vector gives is a code,
  given_code : (b : ℕ) (v : List ℕ) → Vector k x.n v → (c : Option ℕ) → GivesWord k x b v c → is_code k.order c ≡ true
  given_code b v hv None g = refl
  given_code b v hv (Some w) g =
      let low = dot_below k l (row x b) v (row-codes k l x fit b) (vector_codes k l x.n v hv) in
      lt-ltb w k.order (subst (λ (y : ℕ). y < k.order) (sym g) low)

  all_given : Given k x cells → list_all (is_code k.order) cells ≡ true
  all_given (v, h) =
      list_all-from_AllPass (is_code k.order) cells
      (λ b d within.
      subst (λ c. is_code k.order c ≡ true) (get_or_default cells b None d within)
      (given_code b v h.vector (word_at cells b) (h.each b (omega arith))))

  -- so that a word beyond the order is given by none.
  pub beyond : list_all (is_code k.order) cells ≡ false → Given k x cells → ⊥
  beyond fails given = true≢false (sym (all_given given) ∙ fails)

  module _ (low : list_all (is_code k.order) cells ≡ true) where
    code_at : (b w : ℕ) → b < x.n + x.m → word_at cells b ≡ Some w → w < k.order
    code_at b w d is = ltb-true w k.order (ap (is_code k.order) (sym is) ∙ AllPass-from_list_all (is_code k.order) cells low b None (omega arith))

    -- Each data bay gave a word: these are a vector,
    module _ (ws : List ℕ) (h : DataWords x.n cells ws) where
      words_vector : Vector k x.n ws
      words_vector = record { long = h.long; below = λ j d. code_at j (get_or ws j 0) (omega arith) (h.each j d) }

      -- the only one that can give the words,
      only : (v : List ℕ) → GivesWords k x cells v → v ≡ ws
      only v g =
          ext_get_or 0 v ws (g.vector.long ∙ sym h.long)
          (λ j d.
          let within : j < x.n = (let e = g.vector.long in omega arith) in
          let gave : get_or ws j 0 ≡ dot k (row x j) v = subst (GivesWord k x j v) (h.each j within) (g.each j (omega arith)) in
          sym (dot-data k l x j v within g.vector) ∙ sym gave)

      same_check : (i : ℕ) → check_on k x i (codes k ws) ≡ dot k (row x (x.n + i)) ws
      same_check i = ap (dot k (row x (x.n + i))) (codes_same k ws (vector_codes k l x.n ws words_vector))

      holds_gives : (i : ℕ) (c : Option ℕ) → check_holds k x i ws c ≡ true → GivesWord k x (x.n + i) ws c
      holds_gives i None e = tt
      holds_gives i (Some w) e = eqb-true w (check_on k x i (codes k ws)) e ∙ same_check i

      gives_holds : (i : ℕ) (c : Option ℕ) → GivesWord k x (x.n + i) ws c → check_holds k x i ws c ≡ true
      gives_holds i None g = refl
      gives_holds i (Some w) g = eq-eqb w (check_on k x i (codes k ws)) (g ∙ sym (same_check i))

      words_given : ((i : ℕ) → i < x.m → check_holds k x i ws (word_at cells (x.n + i)) ≡ true) → Given k x cells
      words_given all = (
        ws,
        record {
          vector = words_vector;
          each = λ b d. elim (cases_lt b x.n) [
            | inl data_bay ↦ subst (GivesWord k x b ws) (sym (h.each b data_bay)) (sym (dot-data k l x b ws data_bay words_vector))
            | inr check_bay ↦
                let at : x.n + (b - x.n) ≡ b = omega arith in
                subst (λ b. GivesWord k x b ws (word_at cells b)) at (holds_gives (b - x.n) (word_at cells (x.n + (b - x.n))) (all (b - x.n) (omega arith)))
          ];
        },
      )

      words_not : (i : ℕ) → i < x.m → check_holds k x i ws (word_at cells (x.n + i)) ≡ false → Given k x cells → ⊥
      words_not i d fails (v, g) =
          true≢false
          (sym (gives_holds i (word_at cells (x.n + i)) (subst (λ v. GivesWord k x (x.n + i) v (word_at cells (x.n + i))) (only v g) (g.each (x.n + i) (omega arith))))
          ∙ fails)

      -- so that the checks decide.
      pub by_checks : (r : Bool) → MatchBool r ((i : ℕ) → i < x.m → check_holds k x i ws (word_at cells (x.n + i)) ≡ true) ((i : ℕ) × (i < x.m) × (check_holds k x i ws (word_at cells (x.n + i)) ≡ false))
          → MatchBool r (Given k x cells) (Given k x cells → ⊥)
      by_checks true all = words_given all
      by_checks false (i, d, fails) = words_not i d fails

    -- The equations of the words are satisfied just where the words are given: with zeros after a data vector, and without what
    -- follows one.
    module _ (es : List Equation) (h : EquationsOf k x cells (length cells) es) where
      gives_cell : (z : List ℕ) → Vector k most_data z → ((b w : ℕ) → b < length cells → word_at cells b ≡ Some w → dot k (row x b) (take x.n z) ≡ w % k.order) → (b : ℕ) → b < x.n + x.m → (c : Option ℕ) → word_at cells b ≡ c → GivesWord k x b (take x.n z) c
      gives_cell z hz all b d None is = tt
      gives_cell z hz all b d (Some w) is = sym (mod-eq_of_lt (code_at b w d is)) ∙ sym (all b w (omega arith) is)

      satisfied_given : Satisfiable k es → Given k x cells
      satisfied_given (z, hz, sat) = (
        take x.n z,
        record {
          vector = front_vector k l x fit z hz;
          each = λ b d. gives_cell z hz (λ b w d is. sym (gives_front k l x fit b z hz) ∙ h.from z sat b w d is) b d (word_at cells b) refl;
        },
      )

      given_satisfied : Given k x cells → Satisfiable k es
      given_satisfied (v, g) = (
        padded k l x fit v,
        padded_vector k l x fit v g.vector,
        h.to (padded k l x fit v)
            (λ b w d is.
            let gave : w ≡ dot k (row x b) v = subst (GivesWord k x b v) is (g.each b (omega arith)) in
            gives_padded k l x fit b v g.vector ∙ sym gave ∙ sym (mod-eq_of_lt (code_at b w (omega arith) is))),
      )

      pub by_equations : (r : Bool) → MatchBool r (Satisfiable k es) (Satisfiable k es → ⊥) → MatchBool r (Given k x cells) (Given k x cells → ⊥)
      by_equations true sat = satisfied_given sat
      by_equations false none = λ given. none (given_satisfied given)
