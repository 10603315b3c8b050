-- The rows of a set of bays, and what they tell.
use Rattle.std.proofs.Common.{◌≡◌, ℕ, zero, suc, ◌+◌, ◌%◌, ◌<◌, ◌≤◌, Bool, true, false, not, cond, List, [], ◌∷◌, ◌++◌, map, filter, take, length, sym, refl, ap, ◌∙◌, subst, inl, inr, mod-eq_of_lt, map-id, append-nil, arith}
use Rattle.std.specs.List.{All, range_with_len}
use Rattle.std.specs.Bool.{MatchBool}
use Rattle.std.proofs.lemmas.Bool.{cases_lt}
use Rattle.std.proofs.Math.Bool.{not-not}
use Rattle.std.proofs.lemmas.List.{length-map, map-append}
use Rattle.std.proofs.lemmas.List.Elements.{All-nil, All-cons, All-head, All-tail, filter-append}
use Rattle.std.proofs.lemmas.List.Sums.{length-filter, count_by-le-length}
use Rattle.std.proofs.lemmas.List.FromFn.{length-range_with_len, map-range_with_len_more}
use Rattle.field.specs.Arithmetic.{Arithmetic, Lawful}
use Rattle.field.specs.Laws.{zero_below}
use Rattle.plan.specs.Bounds.{most_data}
use Rattle.plan.specs.Coefficients.{Coefficients, Fitting}
use Rattle.plan.specs.Rows.{entry, row, whole_row, dot, Vector, Tells}
use Rattle.plan.proofs.Dots.{vector_codes}
use Rattle.plan.proofs.Padding.{dot-front, front_vector, padded, padded_vector, padded_front}
use Rattle.plan.proofs.Rows.{entry_code}
use Rattle.linear.specs.Equations.{gives, has_row, Satisfies, Told, Open}
use Rattle.linear.specs.Elimination.{Eliminated, reduced}
use Rattle.linear.specs.Sets.{bay_equation, rows_of, TellsJust}
use Rattle.shelf.specs.Calls.{bit}
use Rattle.linear.proofs.Verdicts.{tells, opens}
use Rattle.linear.proofs.Values.{made_columns}
use Rattle.linear.proofs.Nulls.{zeros, zeros_vector, gives_zeros}
use Rattle.linear.specs.declared.equation.Equation.{Equation}
use Rattle.linear.specs.declared.pivot.Pivot.{Pivot}

-- the numbers up to one more
range_more : (n : ℕ) → range_with_len 0 (n + 1) ≡ range_with_len 0 n ++ n ∷ []
range_more n = sym (map-id (range_with_len 0 (n + 1))) ∙ map-range_with_len_more (λ b. b) 0 n n (omega arith) ∙ ap (λ l. l ++ n ∷ []) (map-id (range_with_len 0 n))

module _ (x : Coefficients) (set : ℕ → Bool) where
  -- one bay more
  rows_more : (n : ℕ) → rows_of x set (n + 1) ≡ rows_of x set n ++ map (bay_equation x) (cond (set n) (n ∷ []) [])
  rows_more n =
      ap (λ js. map (bay_equation x) (filter set js)) (range_more n)
      ∙ ap (map (bay_equation x)) (filter-append set (range_with_len 0 n) (n ∷ []))
      ∙ map-append (bay_equation x) (filter set (range_with_len 0 n)) (cond (set n) (n ∷ []) [])

  -- a bay of the set adds its row
  pub rows_in : (n : ℕ) → set n ≡ true → rows_of x set (n + 1) ≡ rows_of x set n ++ bay_equation x n ∷ []
  rows_in n e = rows_more n ∙ ap (λ b. rows_of x set n ++ map (bay_equation x) (cond b (n ∷ []) [])) e

  -- another bay adds nothing
  pub rows_out : (n : ℕ) → set n ≡ false → rows_of x set (n + 1) ≡ rows_of x set n
  rows_out n e = rows_more n ∙ ap (λ b. rows_of x set n ++ map (bay_equation x) (cond b (n ∷ []) [])) e ∙ append-nil (rows_of x set n)

  -- there are no more rows than bays
  pub rows_few : (n : ℕ) → length (rows_of x set n) ≤ n
  rows_few n =
      let js = range_with_len 0 n in
      let a = length-map (filter set js) (bay_equation x) in
      let b = length-filter set js in
      let c = count_by-le-length set js in
      let d = length-range_with_len 0 n in
      omega arith

  -- the rows from bay i on, by whether bay i is in the set
  abbrev after : ℕ → ℕ → List ℕ
  after i n = filter set (range_with_len (i + 1) n)

  module _ (P : Equation → Type 0) where
    less_one : (i n : ℕ) (t : Bool) → All P (map (bay_equation x) (cond t (i ∷ after i n) (after i n))) → All P (map (bay_equation x) (after i n))
    less_one i n true h = All-tail P (bay_equation x i) _ h
    less_one i n false h = h

    with_one : (i n : ℕ) (t : Bool) → (t ≡ true → P (bay_equation x i)) → All P (map (bay_equation x) (after i n)) → All P (map (bay_equation x) (cond t (i ∷ after i n) (after i n)))
    with_one i n true p h = All-cons P (bay_equation x i) _ (p refl) h
    with_one i n false p h = h

    -- What holds of the rows holds of the row of each bay of the set.
    pub of_rows : (i n : ℕ) → All P (map (bay_equation x) (filter set (range_with_len i n))) → (b : ℕ) → i ≤ b → b < i + n → set b ≡ true → P (bay_equation x b)
    of_rows i zero h b low high e = absurd (let z : ⊥ = omega arith in z)
    of_rows i (suc n) h b low high e = elim (cases_lt i b) [
      | inl later ↦ of_rows (i + 1) n (less_one i n (set i) h) b (omega arith) (omega arith) e
      | inr here ↦
          let at : b ≡ i = omega arith in
          let in_set : set i ≡ true = subst (λ b. set b ≡ true) at e in
          subst (λ b. P (bay_equation x b)) (sym at)
          (All-head P (bay_equation x i) _ (subst (λ t. All P (map (bay_equation x) (cond t (i ∷ after i n) (after i n)))) in_set h))
    ]

    -- What holds of the row of each bay of the set holds of the rows.
    pub to_rows : (i n : ℕ) → ((b : ℕ) → i ≤ b → b < i + n → set b ≡ true → P (bay_equation x b)) → All P (map (bay_equation x) (filter set (range_with_len i n)))
    to_rows i zero h = All-nil P
    to_rows i (suc n) h = with_one i n (set i) (λ e. h i (omega arith) (omega arith) e) (to_rows (i + 1) n (λ b low high e. h b (omega arith) (omega arith) e))

module _ (k : Arithmetic) (l : Lawful k) (x : Coefficients) (fit : Fitting k x) where
  -- what the whole row of a bay gives is what the row of the bay gives on the front of the vector
  pub gives_front : (b : ℕ) (z : List ℕ) → Vector k most_data z → gives k (whole_row x b) z ≡ dot k (row x b) (take x.n z)
  gives_front b z h =
      ap (λ r. dot k r z) (made_columns k l (entry x b) (entry_code k l x fit b))
      ∙ sym (dot-front k l x fit b z (vector_codes k l most_data z h))

  -- so on a data vector with zeros after it the whole row gives what the row gives on the vector
  pub gives_padded : (b : ℕ) (v : List ℕ) → Vector k x.n v → gives k (whole_row x b) (padded k l x fit v) ≡ dot k (row x b) v
  gives_padded b v h = gives_front b (padded k l x fit v) (padded_vector k l x fit v h) ∙ ap (dot k (row x b)) (padded_front k l x fit v h)

  module _ (set : ℕ → Bool) (r : ℕ) where
    abbrev rows : List Equation
    rows = rows_of x set (x.n + x.m)

    -- the word zero of a row
    none : 0 ≡ 0 % k.order
    none = sym (mod-eq_of_lt (zero_below k l))

    -- a vector on which the rows give zero satisfies them
    satisfied : (v : List ℕ) → Vector k x.n v → ((b : ℕ) → b < x.n + x.m → set b ≡ true → dot k (row x b) v ≡ 0) → All (Satisfies k (padded k l x fit v)) rows
    satisfied v h z =
        to_rows x set (Satisfies k (padded k l x fit v)) 0 (x.n + x.m) (λ b low high e. gives_padded b v h ∙ z b (omega arith) e ∙ none)

    -- Where the rows tell a word, it is zero, which the vector of zeros has; so they tell the row.
    pub told_tells : (w : ℕ) → Told k rows (whole_row x r) w → Tells k x set r
    told_tells w told v h z =
        let from_zeros : gives k (whole_row x r) (zeros k l) ≡ w =
        told.1 (zeros k l) (zeros_vector k l) (to_rows x set (Satisfies k (zeros k l)) 0 (x.n + x.m) (λ b low high e. gives_zeros k l (whole_row x b) ∙ none)) in
        sym (gives_padded r v h)
        ∙ told.1 (padded k l x fit v) (padded_vector k l x fit v h) (satisfied v h z)
        ∙ sym from_zeros
        ∙ gives_zeros k l (whole_row x r)

    -- Where they leave it open, the vector that shows it shows that they don't.
    pub open_tells_not : Open k rows (whole_row x r) → Tells k x set r → ⊥
    open_tells_not (z, hz, nulls, seen) all =
        seen (gives_front r z hz ∙ all (take x.n z) (front_vector k l x fit z hz)
        (λ b d e. sym (gives_front b z hz) ∙ of_rows x set (λ e. gives k e.row z ≡ 0) 0 (x.n + x.m) nulls b (omega arith) (omega arith) e))

    -- So the set tells a row just where its pivots leave nothing of it.
    pub decided : (gone : List Equation) (ps : List Pivot) → Eliminated k rows gone ps → (t : Bool) → t ≡ not (has_row k (reduced k ps (bay_equation x r))) → MatchBool t (Tells k x set r) (Tells k x set r → ⊥)
    decided gone ps h true e =
        let w = k.sub (0 % k.order) ((reduced k ps (bay_equation x r)).word % k.order) in
        told_tells w (tells k l rows gone ps (whole_row x r) h (sym (not-not (has_row k (reduced k ps (bay_equation x r)))) ∙ ap not (sym e)) w refl)
    decided gone ps h false e = open_tells_not (opens k l rows gone ps (whole_row x r) h (sym (not-not (has_row k (reduced k ps (bay_equation x r)))) ∙ ap not (sym e)))

-- Only the bays of the plan count: sets that agree on them tell the same rows.
module _ (k : Arithmetic) (x : Coefficients) (s t : ℕ → Bool) (same : (b : ℕ) → b < x.n + x.m → s b ≡ t b) where
  tells_same : (r : ℕ) → Tells k x s r → Tells k x t r
  tells_same r h v hv z = h v hv (λ b d e. z b d (sym (same b d) ∙ e))

  tells_back : (r : ℕ) → Tells k x t r → Tells k x s r
  tells_back r h v hv z = h v hv (λ b d e. z b d (same b d ∙ e))

  pub just_same : (bits : ℕ) → TellsJust k x s bits → TellsJust k x t bits
  just_same bits h b d = by (bit bits b) (h b d)
    where
      by : (a : Bool) → MatchBool a (Tells k x s b) (Tells k x s b → ⊥) → MatchBool a (Tells k x t b) (Tells k x t b → ⊥)
      by true tells = tells_same b tells
      by false not_so = λ tells. not_so (tells_back b tells)
