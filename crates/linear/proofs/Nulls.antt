-- Vectors on which all pivots give zero, whatever stands for the words.
use Rattle.std.proofs.Common.{◌≡◌, ℕ, ◌%◌, ◌<◌, List, [], ◌∷◌, map, length, slice_index, get_or, set, sym, refl, ap, ap₂, ◌∙◌, subst, arith}
use Rattle.std.specs.List.{All, range_with_len}
use Rattle.std.proofs.lemmas.List.Elements.{All-nil, All-cons, All-head, All-tail}
use Rattle.std.proofs.lemmas.List.FromFn.{length-map-range_with_len, get_or-map-range_with_len}
use Rattle.field.specs.Arithmetic.{Arithmetic, Lawful}
use Rattle.field.specs.Laws.{zero_below, one_below, code, add-zero, mul-one}
use Rattle.plan.specs.Bounds.{most_data}
use Rattle.plan.specs.Rows.{dot, Vector}
use Rattle.plan.proofs.Dots.{Codes, vector_codes, dot-set}
use Rattle.linear.specs.Equations.{column, entry, gives}
use Rattle.linear.specs.Elimination.{value, Zero, Echelon, VanishesOnPivots}
use Rattle.plan.proofs.Ring.{minus, minus_below, add-minus, sub-from, mul-zero, zero-mul}
use Rattle.plan.proofs.Sums.{map_codes}
use Rattle.plan.proofs.Vectors.{vector-set}
use Rattle.linear.proofs.Values.{entry_below, gives_below, value_below, front_codes}
use Rattle.linear.specs.declared.equation.Equation.{Equation}
use Rattle.linear.specs.declared.pivot.Pivot.{Pivot}

module _ (k : Arithmetic) (l : Lawful k) where
  -- the columns of an equation are codes
  row_codes : (e : Equation) → Codes k (map (entry k e) (range_with_len 0 most_data))
  row_codes e = map_codes k l (entry k e) (range_with_len 0 most_data) (entry_below k l e)

  code_of : (e : Equation) (v : List ℕ) → Vector k most_data v → gives k e.row v < k.order
  code_of e v h = gives_below k l e v (vector_codes k l most_data v h)

  -- one code changed: the row gives more by its column times the difference
  gives-set : (e : Equation) (v : List ℕ) (j new : ℕ) → j < most_data → new < k.order → Vector k most_data v → gives k e.row (set v j new) ≡ k.add (gives k e.row v) (k.mul (entry k e j) (k.sub new (get_or v j 0)))
  gives-set e v j new d low h =
      let js = range_with_len 0 most_data in
      let wide : length (map (entry k e) js) ≡ most_data = length-map-range_with_len (entry k e) 0 most_data in
      dot-set k l (map (entry k e) js) v j new (let w = h.long in omega arith) (omega arith) low (row_codes e) (vector_codes k l most_data v h)
      ∙ ap (λ y. k.add (gives k e.row v) (k.mul y (k.sub new (get_or v j 0)))) (get_or-map-range_with_len (entry k e) 0 most_data j j 0 d (omega arith))

  -- the vector of zeros
  abbrev pub no_code : ℕ → ℕ
  no_code j = 0

  abbrev pub zeros : List ℕ
  zeros = map no_code (range_with_len 0 most_data)

  pub zeros_vector : Vector k most_data zeros
  zeros_vector = record {
    long = length-map-range_with_len no_code 0 most_data;
    below = λ j d. subst (λ (y : ℕ). y < k.order) (sym (get_or-map-range_with_len no_code 0 most_data j j 0 d (omega arith))) (zero_below k l);
  }

  dot_zeros : (r : ℕ → ℕ) (js is : List ℕ) → ((j : ℕ) → r j < k.order) → dot k (map r js) (map no_code is) ≡ 0
  unfolding dot
  dot_zeros r [] is h = refl
  dot_zeros r (j ∷ js) [] h = refl
  dot_zeros r (j ∷ js) (i ∷ is) h = ap₂ k.add (mul-zero k l (r j) (h j)) (dot_zeros r js is h) ∙ l.zero-add 0 (zero_below k l)

  -- on it every row gives zero
  pub gives_zeros : (row : List ℕ) → gives k row zeros ≡ 0
  gives_zeros row = dot_zeros (column k row) (range_with_len 0 most_data) (range_with_len 0 most_data) (λ j. code k l (slice_index row j))

  -- the vector that is one in column c alone gives the column
  abbrev pub unit : ℕ → List ℕ
  unit c = set zeros c 1

  pub unit_vector : (c : ℕ) → c < most_data → Vector k most_data (unit c)
  unit_vector c d = vector-set k l most_data zeros c 1 (one_below k l) zeros_vector

  pub gives_unit : (e : Equation) (c : ℕ) → c < most_data → gives k e.row (unit c) ≡ entry k e c
  gives_unit e c d =
      let low = entry_below k l e c in
      let z = zero_below k l in
      let gone : get_or zeros c 0 ≡ 0 = get_or-map-range_with_len no_code 0 most_data c c 0 d (omega arith) in
      gives-set e zeros c 1 d (one_below k l) zeros_vector
      ∙ ap₂ (λ a b. k.add a (k.mul (entry k e c) (k.sub 1 b))) (gives_zeros e.row) gone
      ∙ ap (λ y. k.add 0 (k.mul (entry k e c) y)) (sub-from k l 1 0 1 (one_below k l) z (one_below k l) (add-zero k l 1 (one_below k l)))
      ∙ ap (k.add 0) (mul-one k l _ low)
      ∙ l.zero-add _ low

  -- s stands for the words
  module _ (s : ℕ) (hs : s < k.order) where
    value_code : (e : Equation) (v : List ℕ) → Vector k most_data v → value k (s ∷ v) e < k.order
    value_code e v h = value_below k l (s ∷ v) e (front_codes k l s v hs h)

    -- the vector, moved in the column of the pivot so that the pivot gives zero
    abbrev settled : Pivot → List ℕ → List ℕ
    settled p v = set v p.column (k.add (get_or v p.column 0) (minus k l (value k (s ∷ v) p.equation)))

    settled_code : (p : Pivot) (v : List ℕ) → Vector k most_data v → k.add (get_or v p.column 0) (minus k l (value k (s ∷ v) p.equation)) < k.order
    settled_code p v h = l.add_below _ _ (h.below p.column p.fits) (minus_below k l _ (value_code p.equation v h))

    settled_vector : (p : Pivot) (v : List ℕ) → Vector k most_data v → Vector k most_data (settled p v)
    settled_vector p v h = vector-set k l most_data v p.column _ (settled_code p v h) h

    -- what an equation then gives
    value-settled : (p : Pivot) (e : Equation) (v : List ℕ) → Vector k most_data v → value k (s ∷ settled p v) e ≡ k.add (value k (s ∷ v) e) (k.mul (entry k e p.column) (minus k l (value k (s ∷ v) p.equation)))
    unfolding dot
    value-settled p e v h =
        let x = get_or v p.column 0 in
        let hx = h.below p.column p.fits in
        let m = minus k l (value k (s ∷ v) p.equation) in
        let hm = minus_below k l _ (value_code p.equation v h) in
        let w = k.mul (e.word % k.order) s in
        ap (k.add w)
        (gives-set e v p.column (k.add x m) p.fits (settled_code p v h) h
        ∙ ap (λ y. k.add (gives k e.row v) (k.mul (entry k e p.column) y)) (sub-from k l (k.add x m) x m (settled_code p v h) hx hm (l.add_comm m x hm hx)))
        ∙ sym (l.add_assoc w (gives k e.row v) (k.mul (entry k e p.column) m) (l.mul_below _ s (code k l e.word) hs) (code_of e v h) (l.mul_below _ m (entry_below k l e p.column) hm))

    -- the pivot gives zero, since it has one in its column
    settled_here : (p : Pivot) (v : List ℕ) → Vector k most_data v → entry k p.equation p.column ≡ 1 → value k (s ∷ settled p v) p.equation ≡ 0
    settled_here p v h one =
        let low = value_code p.equation v h in
        value-settled p p.equation v h
        ∙ ap (k.add (value k (s ∷ v) p.equation)) (ap (λ y. k.mul y (minus k l (value k (s ∷ v) p.equation))) one ∙ l.one-mul _ (minus_below k l _ low))
        ∙ add-minus k l _ low

    -- an equation with zero in that column gives what it gave
    settled_else : (p : Pivot) (e : Equation) (v : List ℕ) → Vector k most_data v → Zero k p.column e → value k (s ∷ settled p v) e ≡ value k (s ∷ v) e
    settled_else p e v h z =
        value-settled p e v h
        ∙ ap (k.add (value k (s ∷ v) e)) (ap (λ y. k.mul y (minus k l (value k (s ∷ v) p.equation))) z ∙ zero-mul k l _ (minus_below k l _ (value_code p.equation v h)))
        ∙ add-zero k l _ (value_code e v h)

    -- settled for all pivots, the last one first
    abbrev pub null : List Pivot → List ℕ → List ℕ
    null [] v = v
    null (p ∷ ps) v = settled p (null ps v)

    pub null_vector : (ps : List Pivot) (v : List ℕ) → Vector k most_data v → Vector k most_data (null ps v)
    null_vector [] v h = h
    null_vector (p ∷ ps) v h = settled_vector p (null ps v) (null_vector ps v h)

    -- Each pivot gives zero: the later ones have zero in the columns of the earlier ones.
    pub null_pivots : (ps : List Pivot) (v : List ℕ) → Echelon k ps → Vector k most_data v → VanishesOnPivots k (s ∷ null ps v) ps
    null_pivots [] v h hv = All-nil (λ p. value k (s ∷ v) p.equation ≡ 0)
    null_pivots (p ∷ ps) v h hv =
        let w = null ps v in
        let hw = null_vector ps v hv in
        let before = null_pivots ps v h.2 hv in
        All-cons (λ q. value k (s ∷ settled p w) q.equation ≡ 0) p ps (settled_here p w hw h.0) (λ n d i. settled_else p (get_or ps n d).equation w hw (h.1 n d i) ∙ before n d i)

    -- An equation with zero in the columns of the pivots gives what it gave.
    pub null_else : (ps : List Pivot) (e : Equation) (v : List ℕ) → Vector k most_data v → All (λ p. Zero k p.column e) ps → value k (s ∷ null ps v) e ≡ value k (s ∷ v) e
    null_else [] e v hv z = refl
    null_else (p ∷ ps) e v hv z =
        settled_else p e (null ps v) (null_vector ps v hv) (All-head (λ p. Zero k p.column e) p ps z)
        ∙ null_else ps e v hv (All-tail (λ p. Zero k p.column e) p ps z)
