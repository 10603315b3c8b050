-- One column of the elimination: a pivot is taken, and its column cleared in what remains.
use Rattle.std.proofs.Common.{◌≡◌, ℕ, zero, suc, ◌+◌, ◌%◌, ◌<◌, ◌≤◌, ◌≢◌, List, [], ◌∷◌, ◌++◌, map, length, get_or, sym, refl, ap, ◌∙◌, subst, Some, inl, inr, mod-eq_of_lt, arith}
use Rattle.std.specs.List.{All, remove}
use Rattle.std.proofs.lemmas.List.Elements.{All-nil, All-cons, All-head, All-tail, All-map, All-take, All-drop, All-append, All-weaker, All-push}
use Rattle.std.proofs.lemmas.List.{length_push, get_or_push, get_or_append_left}
use Rattle.std.proofs.lemmas.Bool.{cases_lt}
use Rattle.field.specs.Arithmetic.{Arithmetic, Lawful}
use Rattle.field.specs.Laws.{code}
use Rattle.plan.specs.Bounds.{most_data}
use Rattle.plan.proofs.Dots.{Codes, vector_codes}
use Rattle.linear.specs.Equations.{entry, times, cleared}
use Rattle.linear.specs.Elimination.{value, Zero, ZeroBefore, TakesPivot, Echelon, Vanishes, VanishesOnPivots, Eliminated}
use Rattle.plan.proofs.Ring.{mul-zero}
use Rattle.linear.proofs.Values.{value_below, value-times, value-cleared, entry_below, zero-times, one-times, cleared-here, cleared-else}
use Rattle.linear.specs.declared.equation.Equation.{Equation}
use Rattle.linear.specs.declared.pivot.Pivot.{Pivot}

-- the other elements still have what all elements had
All-remove : {X : Type 0} (P : X → Type 0) (xs : List X) (n : ℕ) → All P xs → All P (remove xs n)
All-remove P xs n h = All-append P _ _ (All-take P n xs h) (All-drop P (suc n) xs h)

-- and with the removed element they are all
All-removed : {X : Type 0} (P : X → Type 0) (xs : List X) (n : ℕ) → ((d : X) → P (get_or xs n d)) → All P (remove xs n) → All P xs
All-removed P [] n at h = All-nil P
All-removed P (x ∷ xs) zero at h = All-cons P x xs (at x) h
All-removed P (x ∷ xs) (suc n) at h = All-cons P x xs (All-head P x _ h) (All-removed P xs n at (All-tail P x _ h))

-- what the images have
All-unmap : {X Y : Type 0} (P : Y → Type 0) (f : X → Y) (xs : List X) → All P (map f xs) → All (λ x. P (f x)) xs
All-unmap P f [] h = All-nil (λ x. P (f x))
All-unmap P f (x ∷ xs) h = All-cons (λ x. P (f x)) x xs (All-head P (f x) _ h) (All-unmap P f xs (All-tail P (f x) _ h))

-- How far the elimination of es has come: the columns below j are done, `rest` is left and ps are the pivots.
pub record Progress (k : Arithmetic) (es : List Equation) (j : ℕ) (rest : List Equation) (ps : List Pivot) : Type 0 where
  pub onward : (u : List ℕ) → Codes k u → Vanishes k u es → VanishesOnPivots k u ps × Vanishes k u rest
  pub back : (u : List ℕ) → Codes k u → VanishesOnPivots k u ps → Vanishes k u rest → Vanishes k u es
  pub echelon : Echelon k ps
  pub placed : All (λ p. p.column < j) ps
  pub done : (i : ℕ) → i < j → All (Zero k i) rest
  pub room : length ps ≤ j

module _ (k : Arithmetic) (l : Lawful k) where
  -- at first all is left
  pub begun : (es : List Equation) → Progress k es 0 es []
  begun es = record {
    onward = λ u h v. (All-nil (λ p. value k u p.equation ≡ 0), v);
    back = λ u h p v. v;
    echelon = tt;
    placed = All-nil (λ p. p.column < 0);
    done = λ i z. absurd (let f : ⊥ = omega arith in f);
    room = omega arith;
  }

  -- a product with a code other than zero is zero only where the other factor is, since the inverse brings it back
  factor_zero : (a b : ℕ) → a < k.order → b < k.order → a ≢ 0 → k.mul (k.inv a) b ≡ 0 → b ≡ 0
  factor_zero a b ha hb some z =
      let i = l.inv_below a ha some in
      sym (l.one-mul b hb)
      ∙ ap (λ y. k.mul y b) (sym (l.mul-inv a ha some))
      ∙ l.mul_assoc a (k.inv a) b ha i hb
      ∙ ap (k.mul a) z
      ∙ mul-zero k l a ha

  -- the pivot gives zero just where its equation does
  pivot_zero : (u : List ℕ) (e : Equation) (j : ℕ) → Codes k u → value k u e ≡ 0 → value k u (times k (k.inv (entry k e j)) e) ≡ 0
  pivot_zero u e j h z =
      value-times k l (k.inv (entry k e j)) e u h
      ∙ ap (k.mul (k.inv (entry k e j) % k.order)) z
      ∙ mul-zero k l _ (code k l (k.inv (entry k e j)))

  equation_zero : (u : List ℕ) (e : Equation) (j : ℕ) → Codes k u → entry k e j ≢ 0 → value k u (times k (k.inv (entry k e j)) e) ≡ 0 → value k u e ≡ 0
  equation_zero u e j h some z =
      let c = entry k e j in
      let low = entry_below k l e j in
      factor_zero c (value k u e) low (value_below k l u e h) some
      (ap (λ y. k.mul y (value k u e)) (sym (mod-eq_of_lt (l.inv_below c low some))) ∙ sym (value-times k l (k.inv c) e u h) ∙ z)

  -- the later pivot goes to the end: it has zero in the columns of the others
  echelon-push : (ps : List Pivot) (p : Pivot) → Echelon k ps → All (λ q. Zero k q.column p.equation) ps → entry k p.equation p.column ≡ 1 → Echelon k (ps ++ p ∷ [])
  echelon-push [] p h z one = (one, All-nil (λ q. Zero k p.column q.equation), tt)
  echelon-push (q ∷ ps) p h z one = (
    h.0,
    All-push (λ r. Zero k q.column r.equation) ps p (h.1) (All-head (λ q. Zero k q.column p.equation) q ps z),
    echelon-push ps p (h.2) (All-tail (λ q. Zero k q.column p.equation) q ps z) one,
  )

  -- where no equation has anything in the column, it is done
  pub passed : (es rest : List Equation) (ps : List Pivot) (j : ℕ) → Progress k es j rest ps → ZeroBefore k j rest (length rest) → Progress k es (j + 1) rest ps
  passed es rest ps j s none = record {
    onward = s.onward;
    back = s.back;
    echelon = s.echelon;
    placed = All-weaker (λ p. p.column < j) (λ p. p.column < j + 1) (λ p h. omega arith) ps s.placed;
    done = λ i h. elim (cases_lt i j) [
      | inl d ↦ s.done i d
      | inr d ↦ let at : j ≡ i = omega arith in subst (λ i. All (Zero k i) rest) at none
    ];
    room = let h = s.room in omega arith;
  }

  module _ (es old new : List Equation) (ps : List Pivot) (p : Pivot) (j : ℕ) (inside : j < most_data) (s : Progress k es j old ps) (took : TakesPivot k j old new (Some p)) where
    abbrev n : ℕ
    n = took.0

    abbrev e : Equation
    e = took.1

    -- the pivot is in column j, where its equation has something
    at : p.column ≡ j
    at = took.7

    makes : p.equation ≡ times k (k.inv (entry k e j)) e
    makes = took.8

    some : entry k e j ≢ 0
    some = took.4

    -- what all had, the equation of the pivot had
    of_pivot : (P : Equation → Type 0) → All P old → P e
    of_pivot P h = subst P (took.3.1 e) (h n e took.2)

    abbrev next : List Equation
    next = map (cleared k p.column p.equation) new

    -- the pivot and the cleared equations vanish where the equations did
    on : (u : List ℕ) → Codes k u → Vanishes k u old → (value k u p.equation ≡ 0) × Vanishes k u next
    on u h v =
        let zero_on = λ (e : Equation). value k u e ≡ 0 in
        let pz : value k u p.equation ≡ 0 = ap (value k u) makes ∙ pivot_zero u e j h (of_pivot zero_on v) in (
          pz,
          All-map zero_on (cleared k p.column p.equation) new (All-weaker zero_on (λ e. value k u (cleared k p.column p.equation e) ≡ 0) (λ e z. value-cleared k l p.column p.equation e u h pz ∙ z) new
              (subst (Vanishes k u) (sym took.6) (All-remove zero_on old n v))),
        )

    -- and conversely
    off : (u : List ℕ) → Codes k u → value k u p.equation ≡ 0 → Vanishes k u next → Vanishes k u old
    off u h pz v =
        let zero_on = λ (e : Equation). value k u e ≡ 0 in
        let ez : value k u e ≡ 0 = equation_zero u e j h some (ap (value k u) (sym makes) ∙ pz) in
        All-removed zero_on old n (λ d. ap (value k u) (took.3.1 d) ∙ ez)
        (subst (Vanishes k u) took.6
        (All-weaker (λ e. value k u (cleared k p.column p.equation e) ≡ 0) zero_on (λ e z. sym (value-cleared k l p.column p.equation e u h pz) ∙ z) new
        (All-unmap zero_on (cleared k p.column p.equation) new v)))

    -- the pivot has one in its column
    one : entry k p.equation p.column ≡ 1
    one = ap (λ q. entry k q p.column) makes ∙ ap (entry k (times k (k.inv (entry k e j)) e)) at ∙ one-times k l e j inside some

    -- and zero in the columns below
    low : (i : ℕ) → i < j → Zero k i p.equation
    low i h = ap (λ q. entry k q i) makes ∙ zero-times k l (k.inv (entry k e j)) e i (omega arith) (of_pivot (Zero k i) (s.done i h))

    -- so the columns below stay done, and column j is
    clears : (i : ℕ) → i < j + 1 → All (Zero k i) next
    clears i h = elim (cases_lt i j) [
      | inl d ↦
          All-map (Zero k i) (cleared k p.column p.equation) new
          (All-weaker (Zero k i) (λ e. Zero k i (cleared k p.column p.equation e)) (λ e z. cleared-else k l p.column p.equation e i (omega arith) (low i d) ∙ z) new
          (subst (All (Zero k i)) (sym took.6) (All-remove (Zero k i) old n (s.done i d))))
      | inr d ↦
          let is : p.column ≡ i = at ∙ (let same : j ≡ i = omega arith in same) in
          subst (λ i. All (Zero k i) next) is
          (All-map (Zero k p.column) (cleared k p.column p.equation) new (λ m d' h'. cleared-here k l p.column p.equation (get_or new m d') p.fits one))
    ]

    -- One pivot more.
    pub pivoted : Progress k es (j + 1) next (ps ++ p ∷ [])
    pivoted = record {
      onward = λ u h v.
          let was = s.onward u h v in
          let now = on u h (was.1) in
          (All-push (λ p. value k u p.equation ≡ 0) ps p (was.0) (now.0), now.1);
      back = λ u h v w.
          let zero_on = λ (p : Pivot). value k u p.equation ≡ 0 in
          s.back u h (λ m d h'. subst zero_on (get_or_append_left ps (p ∷ []) d m h') (v m d (let long = length_push ps p in omega arith)))
          (off u h (subst zero_on (get_or_push ps p p (length ps) refl) (v (length ps) p (let long = length_push ps p in omega arith))) w);
      echelon = echelon-push ps p s.echelon (All-weaker (λ q. q.column < j) (λ q. Zero k q.column p.equation) (λ q h. low q.column h) ps s.placed) one;
      placed = All-push (λ q. q.column < j + 1) ps p (All-weaker (λ q. q.column < j) (λ q. q.column < j + 1) (λ q h. omega arith) ps s.placed) (let is = at in omega arith);
      done = clears;
      room = let long = length_push ps p in let h = s.room in omega arith;
    }

  -- At the end nothing but words is left.
  pub eliminated : (es rest : List Equation) (ps : List Pivot) → Progress k es most_data rest ps → Eliminated k es rest ps
  eliminated es rest ps s = record {
    onward = λ u h v. s.onward u (vector_codes k l (suc most_data) u h) v;
    back = λ u h p v. s.back u (vector_codes k l (suc most_data) u h) p v;
    echelon = s.echelon;
    rowless = s.done;
  }
