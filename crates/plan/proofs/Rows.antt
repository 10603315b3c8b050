-- The row of each bay, column by column, and how a moved check follows the words.
use Rattle.std.proofs.Common.{◌≡◌, ℕ, ◌+◌, ◌-◌, ◌%◌, ◌<◌, cond, eqb, ltb, List, map, length, get_or, sym, ap, ◌∙◌, subst, inl, inr, mod-eq_of_lt, arith}
use Rattle.std.proofs.lemmas.Bool.{cond-true, cond-false, cond_both, cases_lt, lt-ltb, le-ltb}
use Rattle.std.proofs.lemmas.List.{get_or_past}
use Rattle.std.proofs.lemmas.List.FromFn.{length-map-range_with_len, get_or-map-range_with_len}
use Rattle.std.specs.List.{fold, zip, range_with_len}
use Rattle.field.specs.Arithmetic.{Arithmetic, Lawful}
use Rattle.field.specs.Laws.{zero_below, one_below, code}
use Rattle.plan.specs.Coefficients.{Coefficients, Fitting}
use Rattle.plan.specs.Rows.{entry, row, dot, codes, check_on, moved, Follows}
use Rattle.plan.proofs.Dots.{Codes, vector_codes, dot-set, added, dot_folded}

-- a row has a column for each data bay
pub row-length : (x : Coefficients) (b : ℕ) → length (row x b) ≡ x.n
unfolding row
row-length x b = length-map-range_with_len (entry x b) 0 x.n

-- its columns are the entries
pub row_at : (x : Coefficients) (b j : ℕ) → j < x.n → get_or (row x b) j 0 ≡ entry x b j
unfolding row
row_at x b j h = get_or-map-range_with_len (entry x b) 0 x.n j j 0 h (omega arith)

-- the row of a data bay has one in its own column
pub entry_data : (x : Coefficients) (b j : ℕ) → b < x.n → entry x b j ≡ cond (eqb b j) 1 0
unfolding entry
entry_data x b j h = cond-true (ltb b x.n) _ _ (lt-ltb b x.n h)

-- the row of a check bay has its coefficients
pub entry_check : (x : Coefficients) (i j : ℕ) → entry x (x.n + i) j ≡ x.f i j
unfolding entry
entry_check x i j =
    cond-false (ltb (x.n + i) x.n) _ _ (le-ltb (x.n + i) x.n (omega arith))
    ∙ ap (λ b. x.f b j) (let e : x.n + i - x.n ≡ i = omega arith in e)

-- so the row of check i is its coefficients
pub check_row : (x : Coefficients) (i : ℕ) → row x (x.n + i) ≡ map (x.f i) (range_with_len 0 x.n)
unfolding row
check_row x i t = map (λ j. entry_check x i j t) (range_with_len 0 x.n)

-- a column of the row of check i
pub check_at : (x : Coefficients) (i j : ℕ) → j < x.n → get_or (row x (x.n + i)) j 0 ≡ x.f i j
check_at x i j d = row_at x (x.n + i) j d ∙ entry_check x i j

module _ (k : Arithmetic) (l : Lawful k) (x : Coefficients) (h : Fitting k x) where
  -- zero, one or a coefficient
  pub entry_code : (b j : ℕ) → entry x b j < k.order
  entry_code b j = elim (cases_lt b x.n) [
    | inl d ↦
        subst (λ (y : ℕ). y < k.order) (sym (entry_data x b j d))
        (cond_both (eqb b j) 1 0 (λ y. y < k.order) (λ _. one_below k l) (λ _. zero_below k l))
    | inr d ↦
        let back : x.n + (b - x.n) ≡ b = omega arith in
        subst (λ (y : ℕ). entry x y j < k.order) back (subst (λ (y : ℕ). y < k.order) (sym (entry_check x (b - x.n) j)) (h.below (b - x.n) j))
  ]

  -- every entry of a row is a code
  pub row-codes : (b : ℕ) → Codes k (row x b)
  row-codes b j = elim (cases_lt j x.n) [
    | inl d ↦ subst (λ (y : ℕ). y < k.order) (sym (row_at x b j d)) (entry_code b j)
    | inr d ↦ subst (λ (y : ℕ). y < k.order) (sym (get_or_past (row x b) j 0 (let e = row-length x b in omega arith))) (zero_below k l)
  ]

  -- what the calls of the field make of a check, an old and a new word is the moved check
  pub moved_is : (i j check old new c d p r : ℕ) → c ≡ x.f i j → d ≡ k.sub (new % k.order) (old % k.order) → p ≡ k.mul (c % k.order) (d % k.order) → r ≡ k.add (check % k.order) (p % k.order) → r ≡ moved k x i j (check % k.order) (old % k.order) (new % k.order)
  moved_is i j check old new c d p r ec ed ep er =
      let q = k.order in
      let low : k.sub (new % q) (old % q) < q = l.sub_below _ _ (code k l new) (code k l old) in
      let change : d % q ≡ k.sub (new % q) (old % q) = ap (λ y. y % q) ed ∙ mod-eq_of_lt low in
      let scale : c % q ≡ x.f i j = ap (λ y. y % q) ec ∙ mod-eq_of_lt (h.below i j) in
      let product : p ≡ k.mul (x.f i j) (k.sub (new % q) (old % q)) = ep ∙ ap (λ y. k.mul y (d % q)) scale ∙ ap (k.mul (x.f i j)) change in
      er ∙ ap (λ y. k.add (check % q) (y % q)) product ∙ ap (k.add (check % q)) (mod-eq_of_lt (l.mul_below _ _ (h.below i j) low))

  -- and it follows the words: only column j changed
  pub moved_follows : (i j check old new : ℕ) → new < k.order → Follows k x i j check old new (moved k x i j check old new)
  moved_follows i j check old new low v hv d eo ec =
      let long : j < length v = let e = hv.long in omega arith in
      let wide : j < length (row x (x.n + i)) = let e = row-length x (x.n + i) in omega arith in
      dot-set k l (row x (x.n + i)) v j new long wide low (row-codes (x.n + i)) (vector_codes k l x.n v hv)
      ∙ ap (λ y. k.add y (k.mul (get_or (row x (x.n + i)) j 0) (k.sub new (get_or v j 0)))) ec
      ∙ ap (λ y. k.add check (k.mul y (k.sub new (get_or v j 0)))) (check_at x i j d)
      ∙ ap (λ y. k.add check (k.mul (x.f i j) (k.sub new y))) eo

  -- a fold over the words of the first columns, by the coefficients of check i, is the word of the check
  pub folded_is : (i : ℕ) (ws : List ℕ) → fold (added k (x.f i)) 0 (zip (range_with_len 0 x.n) ws) ≡ check_on k x i (codes k ws)
  folded_is i ws =
      dot_folded k l (x.f i) (h.below i) x.n ws ∙ ap (λ r. dot k r (codes k ws)) (sym (check_row x i))
