-- What the laws of a field give of the sums of products: their bound, one changed column, and the sum one column at a time.
use Rattle.std.proofs.Common.{◌≡◌, ℕ, zero, suc, ◌+◌, ◌%◌, ◌<◌, List, [], ◌∷◌, length, get_or, set, map, sym, refl, ap, ◌∙◌, subst, inl, inr, mod-eq_of_lt, arith}
use Rattle.std.proofs.lemmas.Bool.{cases_lt}
use Rattle.std.proofs.lemmas.List.{get_or_past, get_or-map, length-map}
use Rattle.std.proofs.lemmas.List.FromFn.{length-map-range_with_len, get_or-map-range_with_len}
use Rattle.std.specs.List.{fold, zip, range_with_len}
use Rattle.field.specs.Arithmetic.{Arithmetic, Lawful}
use Rattle.field.specs.Laws.{zero_below, code, add-zero}
use Rattle.plan.specs.Rows.{dot, Vector, codes}

-- every entry is a code, those past the end too
abbrev pub Codes : Arithmetic → List ℕ → Type 0
Codes k r = (j : ℕ) → get_or r j 0 < k.order

module _ (k : Arithmetic) (l : Lawful k) where
  -- past the end the default 0 is a code
  codes_known : (v : List ℕ) (n : ℕ) → length v ≡ n → ((j : ℕ) → j < n → get_or v j 0 < k.order) → Codes k v
  codes_known v n e h j = elim (cases_lt j n) [
    | inl d ↦ h j d
    | inr d ↦ subst (λ (y : ℕ). y < k.order) (sym (get_or_past v j 0 (omega arith))) (zero_below k l)
  ]

  -- a data vector has codes
  pub vector_codes : (n : ℕ) (v : List ℕ) → Vector k n v → Codes k v
  vector_codes n v h = codes_known v n h.long h.below

  -- a code is the remainder of its word
  pub code_at : (ws : List ℕ) (j : ℕ) → j < length ws → get_or (codes k ws) j 0 ≡ get_or ws j 0 % k.order
  code_at ws j d = get_or-map (λ w. w % k.order) ws j 0 0 d

  -- there are as many codes as words
  pub codes-length : (ws : List ℕ) → length (codes k ws) ≡ length ws
  codes-length ws = length-map ws (λ w. w % k.order)

  -- remainders are codes
  pub codes-codes : (ws : List ℕ) → Codes k (codes k ws)
  codes-codes ws =
      codes_known (codes k ws) (length ws) (codes-length ws)
      (λ j d. subst (λ (y : ℕ). y < k.order) (sym (code_at ws j d)) (code k l (get_or ws j 0)))

  -- sums of products of codes are codes
  pub dot_below : (r v : List ℕ) → Codes k r → Codes k v → dot k r v < k.order
  unfolding dot
  dot_below [] v hr hv = zero_below k l
  dot_below (c ∷ cs) [] hr hv = zero_below k l
  dot_below (c ∷ cs) (v ∷ vs) hr hv =
      l.add_below _ _ (l.mul_below c v (hr 0) (hv 0)) (dot_below cs vs (λ j. hr (suc j)) (λ j. hv (suc j)))

  -- one column changed: the sum moves by its coefficient times the difference
  pub dot-set : (r v : List ℕ) (j new : ℕ) → j < length v → j < length r → new < k.order → Codes k r → Codes k v → dot k r (set v j new) ≡ k.add (dot k r v) (k.mul (get_or r j 0) (k.sub new (get_or v j 0)))
  unfolding dot
  dot-set [] v j new dv dr hn hr hv = absurd (let z : ⊥ = omega arith in z)
  dot-set (c ∷ cs) [] j new dv dr hn hr hv = absurd (let z : ⊥ = omega arith in z)
  dot-set (c ∷ cs) (v ∷ vs) zero new dv dr hn hr hv =
      let s = k.sub new v in
      let hs : s < k.order = l.sub_below new v hn (hv 0) in
      let d = dot k cs vs in
      let hd : d < k.order = dot_below cs vs (λ i. hr (suc i)) (λ i. hv (suc i)) in
      let hcs : k.mul c s < k.order = l.mul_below c s (hr 0) hs in
      let hcv : k.mul c v < k.order = l.mul_below c v (hr 0) (hv 0) in
      ap (λ y. k.add (k.mul c y) d) (sym (l.sub-add new v hn (hv 0)))
      ∙ ap (λ y. k.add y d) (l.mul-add c s v (hr 0) hs (hv 0))
      ∙ l.add_assoc (k.mul c s) (k.mul c v) d hcs hcv hd
      ∙ l.add_comm (k.mul c s) (k.add (k.mul c v) d) hcs (l.add_below _ _ hcv hd)
  dot-set (c ∷ cs) (v ∷ vs) (suc j) new dv dr hn hr hv =
      let hr' : Codes k cs = λ i. hr (suc i) in
      let hv' : Codes k vs = λ i. hv (suc i) in
      let m = k.mul (get_or cs j 0) (k.sub new (get_or vs j 0)) in
      let hm : m < k.order = l.mul_below _ _ (hr' j) (l.sub_below new _ hn (hv' j)) in
      ap (k.add (k.mul c v)) (dot-set cs vs j new (omega arith) (omega arith) hn hr' hv')
      ∙ sym (l.add_assoc (k.mul c v) (dot k cs vs) m (l.mul_below c v (hr 0) (hv 0)) (dot_below cs vs hr' hv') hm)

-- one product more, of the coefficient in column p.0 and the word p.1, as the calls of the field add it
abbrev pub added : Arithmetic → (ℕ → ℕ) → ℕ → ℕ × ℕ → ℕ
added k f sum p = k.add (sum % k.order) (k.mul (f p.0 % k.order) (p.1 % k.order) % k.order)

module _ (k : Arithmetic) (l : Lawful k) (f : ℕ → ℕ) (low : (j : ℕ) → f j < k.order) where
  -- coefficients are codes
  coefficients-codes : (i n : ℕ) → Codes k (map f (range_with_len i n))
  coefficients-codes i n =
      codes_known k l (map f (range_with_len i n)) n (length-map-range_with_len f i n)
      (λ j d. subst (λ (y : ℕ). y < k.order) (sym (get_or-map-range_with_len f i n j (i + j) 0 d refl)) (low (i + j)))

  -- The columns from i on, added to a sum one after the other, add their whole sum of products, by associativity.
  dot_added : (sum i n : ℕ) (ws : List ℕ) → sum < k.order → fold (added k f) sum (zip (range_with_len i n) ws) ≡ k.add sum (dot k (map f (range_with_len i n)) (codes k ws))
  unfolding dot
  dot_added sum i zero ws h = sym (add-zero k l sum h)
  dot_added sum i (suc n) [] h = sym (add-zero k l sum h)
  dot_added sum i (suc n) (w ∷ ws) h =
      let q = k.order in
      let m = k.mul (f i) (w % q) in
      let hm : m < q = l.mul_below (f i) (w % q) (low i) (code k l w) in
      let rest = dot k (map f (range_with_len (i + 1) n)) (codes k ws) in
      let hrest : rest < q = dot_below k l (map f (range_with_len (i + 1) n)) (codes k ws) (coefficients-codes (i + 1) n) (codes-codes k l ws) in
      let is : added k f sum (i, w) ≡ k.add sum m =
      ap (λ y. k.add y (k.mul (f i % q) (w % q) % q)) (mod-eq_of_lt h)
      ∙ ap (λ y. k.add sum (k.mul y (w % q) % q)) (mod-eq_of_lt (low i))
      ∙ ap (k.add sum) (mod-eq_of_lt hm) in
      dot_added (added k f sum (i, w)) (i + 1) n ws (subst (λ (y : ℕ). y < q) (sym is) (l.add_below sum m h hm))
      ∙ ap (λ y. k.add y rest) is
      ∙ l.add_assoc sum m rest h hm hrest

  -- From zero on the sum is what the row of these coefficients gives.
  pub dot_folded : (n : ℕ) (ws : List ℕ) → fold (added k f) 0 (zip (range_with_len 0 n) ws) ≡ dot k (map f (range_with_len 0 n)) (codes k ws)
  dot_folded n ws =
      dot_added 0 0 n ws (zero_below k l)
      ∙ l.zero-add _ (dot_below k l (map f (range_with_len 0 n)) (codes k ws) (coefficients-codes 0 n) (codes-codes k l ws))
