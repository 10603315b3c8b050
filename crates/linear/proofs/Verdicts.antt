-- What the pivots tell of the target, and whether any vector satisfies the equations.
use Rattle.std.proofs.Common.{◌≡◌, ℕ, suc, ◌+◌, ◌%◌, ◌<◌, ◌≢◌, Bool, true, false, not, eqb, true≢false, List, [], ◌∷◌, get_or, sym, refl, ap, ◌∙◌, subst, inl, inr, mod-eq_of_lt, arith}
use Rattle.std.specs.List.{All, list_all, range_with_len}
use Rattle.std.specs.Bool.{MatchBool}
use Rattle.std.proofs.lemmas.Bool.{cases_eq, ne_eqb, eq-eqb, eqb-true}
use Rattle.std.proofs.lemmas.List.Elements.{All-nil, All-cons, All-head, All-tail}
use Rattle.std.proofs.lemmas.List.Folds.{Any-from_list_any, list_any_at}
use Rattle.std.proofs.lemmas.List.Sums.{AllPass-from_list_all, list_all-from_AllPass}
use Rattle.std.proofs.lemmas.List.FromFn.{length-range_with_len, get_or-range_with_len}
use Rattle.field.specs.Arithmetic.{Arithmetic, Lawful}
use Rattle.field.specs.Laws.{zero_below, one_below, code, add-zero, mul-one}
use Rattle.plan.specs.Bounds.{most_data}
use Rattle.plan.specs.Rows.{dot, Vector}
use Rattle.plan.proofs.Dots.{Codes, vector_codes}
use Rattle.linear.specs.Equations.{entry, has_row, gives, Satisfies, Satisfiable, Covered, Told, Open, cleared}
use Rattle.linear.specs.Elimination.{value, Zero, Echelon, Vanishes, VanishesOnPivots, Eliminated, reduced}
use Rattle.linear.proofs.Equations.{equation}
use Rattle.plan.proofs.Ring.{minus, minus_below, add-cancel, sub-from, mul-zero, zero-mul}
use Rattle.linear.proofs.Values.{gives_below, front_codes, value_null, gives_none, value-cleared, cleared-here, cleared-else}
use Rattle.linear.proofs.Nulls.{zeros, zeros_vector, unit, unit_vector, gives_unit, null, null_vector, null_pivots, null_else}
use Rattle.linear.specs.declared.equation.Equation.{Equation}
use Rattle.linear.specs.declared.pivot.Pivot.{Pivot}

module _ (k : Arithmetic) (l : Lawful k) where
  -- reducing changes nothing for a vector that gives zero on the pivots
  value-reduced : (u : List ℕ) → Codes k u → (ps : List Pivot) (e : Equation) → VanishesOnPivots k u ps → value k u (reduced k ps e) ≡ value k u e
  value-reduced u h [] e z = refl
  value-reduced u h (p ∷ ps) e z =
      let zero_on = λ (p : Pivot). value k u p.equation ≡ 0 in
      value-reduced u h ps (cleared k p.column p.equation e) (All-tail zero_on p ps z) ∙ value-cleared k l p.column p.equation e u h (All-head zero_on p ps z)

  -- it leaves a zero that the pivots have too
  zero-reduced : (c : ℕ) → c < most_data → (ps : List Pivot) (e : Equation) → Zero k c e → All (λ p. Zero k c p.equation) ps → Zero k c (reduced k ps e)
  zero-reduced c d [] e z h = z
  zero-reduced c d (p ∷ ps) e z h =
      let has = λ (p : Pivot). Zero k c p.equation in
      zero-reduced c d ps (cleared k p.column p.equation e) (cleared-else k l p.column p.equation e c d (All-head has p ps h) ∙ z) (All-tail has p ps h)

  -- and makes zero in the columns of all pivots
  reduced_zero : (ps : List Pivot) (e : Equation) → Echelon k ps → All (λ p. Zero k p.column (reduced k ps e)) ps
  reduced_zero [] e h = All-nil (λ p. Zero k p.column e)
  reduced_zero (p ∷ ps) e h =
      let next = cleared k p.column p.equation e in
      All-cons (λ q. Zero k q.column (reduced k ps next)) p ps
      (zero-reduced p.column p.fits ps next (cleared-here k l p.column p.equation e p.fits h.0) h.1)
      (reduced_zero ps next h.2)

  -- minus one, which stands for the words where a vector satisfies the equations
  abbrev m : ℕ
  m = minus k l 1

  m_below : m < k.order
  m_below = minus_below k l 1 (one_below k l)

  -- a word times minus one, and the word, add up to zero
  word_gone : (w : ℕ) → w < k.order → k.add (k.mul w m) w ≡ 0
  word_gone w h =
      let z = zero_below k l in
      let o = one_below k l in
      ap (k.add (k.mul w m)) (sym (mul-one k l w h))
      ∙ sym (l.mul-add w m 1 h m_below o)
      ∙ ap (k.mul w) (l.sub-add 0 1 z o)
      ∙ mul-zero k l w h

  -- so a vector that satisfies the equations, with minus one for the words, gives zero on them
  satisfied : (v : List ℕ) (es : List Equation) → All (Satisfies k v) es → Vanishes k (m ∷ v) es
  unfolding dot
  satisfied v es h n d i =
      let e = get_or es n d in
      ap (k.add (k.mul (e.word % k.order) m)) (h n d i) ∙ word_gone (e.word % k.order) (code k l e.word)

  front_vector : (s : ℕ) → s < k.order → (v : List ℕ) → Vector k most_data v → Vector k (suc most_data) (s ∷ v)
  front_vector s hs v h = record { long = ap suc h.long; below = λ j d. front_codes k l s v hs h j }

  whole_vector : (v : List ℕ) → Vector k most_data v → Vector k (suc most_data) (m ∷ v)
  whole_vector v h = front_vector m m_below v h

  -- no column is left
  empty : (e : Equation) → has_row k e ≡ false → (j : ℕ) → j < most_data → entry k e j ≡ 0
  empty e h j d = elim (cases_eq (entry k e j) 0) [
    | inl z ↦ z
    | inr ne ↦
        let js = range_with_len 0 most_data in
        let some : ℕ → Bool = λ j. not (eqb (entry k e j) 0) in
        let at : get_or js j 0 ≡ j = get_or-range_with_len 0 most_data j 0 d ∙ (let same : 0 + j ≡ j = omega arith in same) in
        let long = length-range_with_len 0 most_data in
        absurd (true≢false (sym (list_any_at some js j 0 (omega arith) (ap some at ∙ ap not (ne_eqb (entry k e j) 0 ne))) ∙ h))
  ]

  -- a column is left
  left : (e : Equation) → has_row k e ≡ true → (c : ℕ) × (c < most_data) × (entry k e c ≢ 0)
  left e h =
      let found = Any-from_list_any (λ j. not (eqb (entry k e j) 0)) (range_with_len 0 most_data) h in
      let c = found.1 in
      let i = found.2 in
      let is = found.3 in
      let long = length-range_with_len 0 most_data in
      let at = get_or-range_with_len 0 most_data found.0 c (omega arith) in
      (c, omega arith, λ z. true≢false (sym found.4 ∙ ap not (eq-eqb (entry k e c) 0 z)))

  -- minus a word is the word times minus one
  minus_word : (w : ℕ) → k.sub (0 % k.order) (w % k.order) ≡ k.mul (w % k.order) m
  minus_word w =
      let z = zero_below k l in
      let r = code k l w in
      ap (λ y. k.sub y (w % k.order)) (mod-eq_of_lt z) ∙ sub-from k l 0 (w % k.order) (k.mul (w % k.order) m) z r (l.mul_below _ m r m_below) (word_gone (w % k.order) r)

  -- with no word an equation gives what its row gives, whatever stands for the words
  value_wordless : (row v : List ℕ) → Vector k most_data v → value k (m ∷ v) (equation row 0) ≡ gives k row v
  unfolding dot
  value_wordless row v h =
      ap (λ y. k.add (k.mul y m) (gives k row v)) (mod-eq_of_lt (zero_below k l))
      ∙ ap (λ y. k.add y (gives k row v)) (zero-mul k l m m_below)
      ∙ l.zero-add _ (gives_below k l (equation row 0) v (vector_codes k l most_data v h))

  -- such a vector is the data vector of one that gives zero
  satisfies_back : (v : List ℕ) (es : List Equation) → Vector k most_data v → Vanishes k (m ∷ v) es → All (Satisfies k v) es
  unfolding dot
  satisfies_back v es hv h n d i =
      let e = get_or es n d in
      let w = code k l e.word in
      let a = l.mul_below (e.word % k.order) m w m_below in
      let g = gives_below k l e v (vector_codes k l most_data v hv) in
      add-cancel k l (gives k e.row v) (e.word % k.order) (k.mul (e.word % k.order) m) g w a
      (l.add_comm _ _ g a ∙ h n d i ∙ sym (word_gone (e.word % k.order) w) ∙ l.add_comm _ _ a w)

  -- a word is zero where its product with minus one is
  no_word : (w : ℕ) → w < k.order → k.mul w m ≡ 0 → w ≡ 0
  no_word w h z = sym (l.zero-add w h) ∙ ap (λ y. k.add y w) (sym z) ∙ word_gone w h

  -- with nothing in its columns an equation gives its word, by what stands for the words
  value_bare : (s : ℕ) → s < k.order → (e : Equation) (v : List ℕ) → ((j : ℕ) → j < most_data → entry k e j ≡ 0) → Vector k most_data v → value k (s ∷ v) e ≡ k.mul (e.word % k.order) s
  unfolding dot
  value_bare s hs e v none h =
      ap (k.add (k.mul (e.word % k.order) s)) (gives_none k l e v h none)
      ∙ add-zero k l _ (l.mul_below _ s (code k l e.word) hs)

  module _ (es gone : List Equation) (ps : List Pivot) (h : Eliminated k es gone ps) where
    -- no word is left
    abbrev NoWords : Type 0
    NoWords = All (λ e. e.word % k.order ≡ 0) gone

    -- Where no word is left, the vector of zeros, settled for the pivots, satisfies the equations.
    pub all_satisfied : NoWords → Satisfiable k es
    all_satisfied none =
        let z = null k l m m_below ps (zeros k l) in
        let hz = null_vector k l m m_below ps (zeros k l) (zeros_vector k l) in (
          z,
          hz,
          satisfies_back z es hz
              (h.back (m ∷ z) (whole_vector z hz) (null_pivots k l m m_below ps (zeros k l) h.echelon (zeros_vector k l))
              (λ n d i.
              value_bare m m_below (get_or gone n d) z (λ j b. h.rowless j b n d i) hz
              ∙ ap (λ y. k.mul y m) (none n d i)
              ∙ zero-mul k l m m_below)),
        )

    -- Where a vector satisfies the equations, no word is left.
    pub none_left : Satisfiable k es → NoWords
    none_left (v, hv, sat) n d i =
        let e = get_or gone n d in
        no_word (e.word % k.order) (code k l e.word)
        (sym (value_bare m m_below e v (λ j b. h.rowless j b n d i) hv) ∙ (h.onward (m ∷ v) (whole_vector v hv) (satisfied v es sat)).1 n d i)

    -- So the test of the words decides.
    pub decides : (b : Bool) → b ≡ list_all (λ e. eqb (e.word % k.order) 0) gone → MatchBool b (Satisfiable k es) (Satisfiable k es → ⊥)
    decides true is = all_satisfied (λ n d i. eqb-true _ 0 (AllPass-from_list_all (λ e. eqb (e.word % k.order) 0) gone (sym is) n d i))
    decides false is = λ all. true≢false (sym (list_all-from_AllPass (λ e. eqb (e.word % k.order) 0) gone (λ n d i. eq-eqb _ 0 (none_left all n d i))) ∙ sym is)

    -- A vector with zero for the words that gives zero on the pivots gives zero on the equations.
    back_null : (v : List ℕ) → Vector k most_data v → VanishesOnPivots k (0 ∷ v) ps → Vanishes k (0 ∷ v) es
    back_null v hv p =
        let z = zero_below k l in
        h.back (0 ∷ v) (front_vector 0 z v hv) p
        (λ n d i. value_bare 0 z (get_or gone n d) v (λ j b. h.rowless j b n d i) hv ∙ mul-zero k l _ (code k l (get_or gone n d).word))

  module _ (es gone : List Equation) (ps : List Pivot) (target : List ℕ) (h : Eliminated k es gone ps) where
    abbrev rest : Equation
    rest = reduced k ps (equation target 0)

    -- Where nothing is left of the row, a vector that gives zero on the rows gives zero on the pivots, and so on the target.
    nothing_open : has_row k rest ≡ false → Covered k es target
    nothing_open none z hz zeros =
        let o = zero_below k l in
        let vanish : Vanishes k (0 ∷ z) es = λ n d i. value_null k l z (get_or es n d) hz ∙ zeros n d i in
        sym (value_null k l z (equation target 0) hz)
        ∙ sym (value-reduced (0 ∷ z) (front_codes k l 0 z o hz) ps (equation target 0) (h.onward (0 ∷ z) (front_vector 0 o z hz) vanish).0)
        ∙ value_bare 0 o rest z (empty rest none) hz
        ∙ mul-zero k l _ (code k l rest.word)

    -- Where nothing is left of the row, the word is minus what is left of the word.
    pub tells : has_row k rest ≡ false → (w : ℕ) → w ≡ k.sub (0 % k.order) (rest.word % k.order) → Told k es target w
    tells none w is =
        let word = is ∙ minus_word rest.word in (
          subst (λ (y : ℕ). y < k.order) (sym word) (l.mul_below _ m (code k l rest.word) m_below),
          λ v hv sat.
              sym (value_wordless target v hv)
              ∙ sym (value-reduced (m ∷ v) (front_codes k l m v m_below hv) ps (equation target 0) (h.onward (m ∷ v) (whole_vector v hv) (satisfied v es sat)).0)
              ∙ value_bare m m_below rest v (empty rest none) hv
              ∙ sym word,
          nothing_open none,
        )

    -- Where a column is left, the vector that is one there, settled for the pivots, shows that the target is open.
    pub opens : has_row k rest ≡ true → Open k es target
    opens some =
        let (c, within, seen) = left rest some in
        let u = unit k l c in
        let hu = unit_vector k l c within in
        let zero = zero_below k l in
        let z = null k l 0 zero ps u in
        let hz = null_vector k l 0 zero ps u hu in
        let pivots = null_pivots k l 0 zero ps u h.echelon hu in
        let same : gives k target z ≡ entry k rest c =
        sym (value_null k l z (equation target 0) hz)
        ∙ sym (value-reduced (0 ∷ z) (front_codes k l 0 z zero hz) ps (equation target 0) pivots)
        ∙ null_else k l 0 zero ps rest u hu (reduced_zero ps (equation target 0) h.echelon)
        ∙ value_null k l u rest hu
        ∙ gives_unit k l rest c within in
        (z, hz, λ n d i. sym (value_null k l z (get_or es n d) hz) ∙ back_null es gone ps h z hz pivots n d i, λ e. seen (sym same ∙ e))
