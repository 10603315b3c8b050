-- What an equation gives on a vector, after `times` and `less`, and what then stands in its columns.
use Rattle.std.proofs.Common.{◌≡◌, ℕ, zero, suc, ◌%◌, ◌<◌, ◌≢◌, List, [], ◌∷◌, map, slice_index, get_or, sym, refl, ap, ◌∙◌, mod-eq_of_lt, arith}
use Rattle.std.specs.List.{range_with_len}
use Rattle.std.proofs.lemmas.List.FromFn.{length-range_with_len, get_or-range_with_len, length-map-range_with_len, get_or-map-range_with_len, fill_by_all}
use Rattle.field.specs.Arithmetic.{Arithmetic, Lawful}
use Rattle.field.specs.Laws.{zero_below, one_below, code, add-zero}
use Rattle.plan.specs.Bounds.{most_data}
use Rattle.plan.specs.Rows.{dot, Vector}
use Rattle.plan.proofs.Dots.{Codes, vector_codes, dot_below}
use Rattle.linear.specs.Equations.{column, entry, gives, scaled, lessened, times, less, cleared}
use Rattle.linear.specs.Elimination.{value}
use Rattle.plan.proofs.Ring.{add-cancel, mul-zero}
use Rattle.plan.proofs.Sums.{map_codes, less_more, dot-less, times_more, dot-times, dot-none}
use Rattle.linear.specs.declared.equation.Equation.{Equation}

module _ (k : Arithmetic) (l : Lawful k) where
  -- a row that is made of codes has them in its columns
  made_column : (f : ℕ → ℕ) → ((j : ℕ) → f j < k.order) → (j : ℕ) → j < most_data → column k (map f (range_with_len 0 most_data)) j ≡ f j
  made_column f low j h = ap (λ y. y % k.order) (get_or-map-range_with_len f 0 most_data j j 0 h (omega arith)) ∙ mod-eq_of_lt (low j)

  pub made_columns : (f : ℕ → ℕ) → ((j : ℕ) → f j < k.order)
      → map (column k (map f (range_with_len 0 most_data))) (range_with_len 0 most_data) ≡ map f (range_with_len 0 most_data)
  made_columns f low =
      let made = column k (map f (range_with_len 0 most_data)) in
      fill_by_all f (map made (range_with_len 0 most_data)) most_data 0 (length-map-range_with_len made 0 most_data)
      (λ j h. get_or-map-range_with_len made 0 most_data j j 0 h (omega arith) ∙ made_column f low j h)

  -- products and differences of words are codes
  scaled_below : (b x : ℕ) → scaled k b x < k.order
  scaled_below b x = l.mul_below _ _ (code k l b) (code k l x)

  lessened_is : (b y x : ℕ) → lessened k b y x ≡ k.sub (x % k.order) (scaled k b y)
  lessened_is b y x = ap (k.sub (x % k.order)) (mod-eq_of_lt (scaled_below b y))

  lessened_below : (b y x : ℕ) → lessened k b y x < k.order
  lessened_below b y x = l.sub_below _ _ (code k l x) (code k l _)

  -- what was taken away, added again
  lessened_back : (b y x : ℕ) → k.add (lessened k b y x) (scaled k b y) ≡ x % k.order
  lessened_back b y x = ap (λ z. k.add z (scaled k b y)) (lessened_is b y x) ∙ l.sub-add (x % k.order) (scaled k b y) (code k l x) (scaled_below b y)

  -- the columns of an equation are codes
  pub entry_below : (e : Equation) (j : ℕ) → entry k e j < k.order
  entry_below e j = code k l (slice_index e.row j)

  -- so is what they give on codes
  pub gives_below : (e : Equation) (v : List ℕ) → Codes k v → gives k e.row v < k.order
  gives_below e v h = dot_below k l (map (entry k e) (range_with_len 0 most_data)) v (map_codes k l (entry k e) (range_with_len 0 most_data) (entry_below e)) h

  pub value_below : (u : List ℕ) (e : Equation) → Codes k u → value k u e < k.order
  unfolding dot
  value_below [] e h = zero_below k l
  value_below (x ∷ xs) e h = l.add_below _ _ (l.mul_below _ _ (code k l e.word) (h 0)) (gives_below e xs (λ i. h (suc i)))

  -- a code for the words, in front of a data vector
  pub front_codes : (s : ℕ) (v : List ℕ) → s < k.order → Vector k most_data v → Codes k (s ∷ v)
  front_codes s v low h zero = low
  front_codes s v low h (suc j) = vector_codes k l most_data v h j

  -- with zero for the words an equation gives what its row gives
  pub value_null : (v : List ℕ) (e : Equation) → Vector k most_data v → value k (0 ∷ v) e ≡ gives k e.row v
  unfolding dot
  value_null v e h =
      ap (λ y. k.add y (gives k e.row v)) (mul-zero k l _ (code k l e.word))
      ∙ l.zero-add _ (gives_below e v (vector_codes k l most_data v h))

  -- a row with nothing in its columns gives zero
  pub gives_none : (e : Equation) (v : List ℕ) → Vector k most_data v → ((j : ℕ) → j < most_data → entry k e j ≡ 0) → gives k e.row v ≡ 0
  gives_none e v h z =
      let js = range_with_len 0 most_data in
      let long = length-range_with_len 0 most_data in
      dot-none k l (entry k e) js v (vector_codes k l most_data v h)
      (λ n d i. z (get_or js n d) (let at = get_or-range_with_len 0 most_data n d (omega arith) in omega arith))

  -- less `by` times another, and `by` times what the other gives, add up to what the equation gave
  pub value-less : (b : ℕ) (o e : Equation) (u : List ℕ) → Codes k u → k.add (value k u (less k b o e)) (k.mul (b % k.order) (value k u o)) ≡ value k u e
  unfolding dot
  value-less b o e [] h = l.zero-add _ (l.mul_below _ 0 (code k l b) (zero_below k l)) ∙ mul-zero k l _ (code k l b)
  value-less b o e (x ∷ xs) h =
      let js = range_with_len 0 most_data in
      let r : ℕ → ℕ = λ j. lessened k b (slice_index o.row j) (slice_index e.row j) in
      let low : (j : ℕ) → r j < k.order = λ j. lessened_below b (slice_index o.row j) (slice_index e.row j) in
      let hxs : Codes k xs = λ i. h (suc i) in
      let w = lessened k b o.word e.word in
      ap (λ cs. k.add (k.add (k.mul (w % k.order) x) (dot k cs xs)) (k.mul (b % k.order) (value k (x ∷ xs) o))) (made_columns r low)
      ∙ ap (λ y. k.add (k.add (k.mul y x) (dot k (map r js) xs)) (k.mul (b % k.order) (value k (x ∷ xs) o))) (mod-eq_of_lt (lessened_below b o.word e.word))
      ∙ less_more k l (b % k.order) x w (o.word % k.order) (e.word % k.order) (dot k (map r js) xs) (dot k (map (entry k o) js) xs) (dot k (map (entry k e) js) xs)
      (code k l b) (h 0) (lessened_below b o.word e.word) (code k l o.word)
      (dot_below k l (map r js) xs (map_codes k l r js low) hxs) (gives_below o xs hxs)
      (lessened_back b o.word e.word)
      (dot-less k l (b % k.order) r (entry k o) (entry k e) (code k l b) low (entry_below o) (λ j. lessened_back b (slice_index o.row j) (slice_index e.row j)) js xs hxs)

  -- `by` times an equation gives `by` times what it gave
  pub value-times : (b : ℕ) (e : Equation) (u : List ℕ) → Codes k u → value k u (times k b e) ≡ k.mul (b % k.order) (value k u e)
  unfolding dot
  value-times b e [] h = sym (mul-zero k l _ (code k l b))
  value-times b e (x ∷ xs) h =
      let js = range_with_len 0 most_data in
      let r : ℕ → ℕ = λ j. scaled k b (slice_index e.row j) in
      let hxs : Codes k xs = λ i. h (suc i) in
      ap (λ cs. k.add (k.mul (scaled k b e.word % k.order) x) (dot k cs xs)) (made_columns r (λ j. scaled_below b (slice_index e.row j)))
      ∙ times_more k l (b % k.order) x (scaled k b e.word % k.order) (e.word % k.order) (dot k (map r js) xs) (dot k (map (entry k e) js) xs)
      (code k l b) (h 0) (code k l e.word) (gives_below e xs hxs)
      (mod-eq_of_lt (scaled_below b e.word))
      (dot-times k l (b % k.order) r (entry k e) (code k l b) (entry_below e) (λ j. refl) js xs hxs)

  -- where the other gives zero, less `by` times it changes nothing
  pub value-cleared : (j : ℕ) (o e : Equation) (u : List ℕ) → Codes k u → value k u o ≡ 0 → value k u (cleared k j o e) ≡ value k u e
  value-cleared j o e u h z =
      let b = slice_index e.row j in
      sym (add-zero k l _ (value_below u (less k b o e) h))
      ∙ ap (k.add (value k u (less k b o e))) (sym (ap (k.mul (b % k.order)) z ∙ mul-zero k l _ (code k l b)))
      ∙ value-less b o e u h

  -- a column of `by` times an equation
  entry-times : (b : ℕ) (e : Equation) (j : ℕ) → j < most_data → entry k (times k b e) j ≡ scaled k b (slice_index e.row j)
  entry-times b e j h = made_column (λ j. scaled k b (slice_index e.row j)) (λ j. scaled_below b (slice_index e.row j)) j h

  -- a zero stays
  pub zero-times : (b : ℕ) (e : Equation) (j : ℕ) → j < most_data → entry k e j ≡ 0 → entry k (times k b e) j ≡ 0
  zero-times b e j h z = entry-times b e j h ∙ ap (k.mul (b % k.order)) z ∙ mul-zero k l _ (code k l b)

  -- the inverse of a column makes it one
  pub one-times : (e : Equation) (j : ℕ) → j < most_data → entry k e j ≢ 0 → entry k (times k (k.inv (entry k e j)) e) j ≡ 1
  one-times e j h some =
      let c = entry k e j in
      let low = entry_below e j in
      let i = l.inv_below c low some in
      entry-times (k.inv c) e j h
      ∙ ap (λ y. k.mul y c) (mod-eq_of_lt i)
      ∙ l.mul_comm (k.inv c) c i low
      ∙ l.mul-inv c low some

  -- a column once another equation is cleared out of it
  entry-cleared : (j : ℕ) (o e : Equation) (i : ℕ) → i < most_data → entry k (cleared k j o e) i ≡ k.sub (entry k e i) (scaled k (slice_index e.row j) (slice_index o.row i))
  entry-cleared j o e i h =
      made_column (λ i. lessened k (slice_index e.row j) (slice_index o.row i) (slice_index e.row i)) (λ i. lessened_below (slice_index e.row j) (slice_index o.row i) (slice_index e.row i)) i h
      ∙ lessened_is (slice_index e.row j) (slice_index o.row i) (slice_index e.row i)

  -- x less x is zero, and x less zero is x
  sub-self : (a : ℕ) → a < k.order → k.sub a a ≡ 0
  sub-self a h = add-cancel k l (k.sub a a) 0 a (l.sub_below a a h h) (zero_below k l) h (l.sub-add a a h h ∙ sym (l.zero-add a h))

  sub-zero : (a : ℕ) → a < k.order → k.sub a 0 ≡ a
  sub-zero a h = let z = zero_below k l in sym (add-zero k l (k.sub a 0) (l.sub_below a 0 h z)) ∙ l.sub-add a 0 h z

  -- in the column where the other has one nothing is left
  pub cleared-here : (j : ℕ) (o e : Equation) → j < most_data → entry k o j ≡ 1 → entry k (cleared k j o e) j ≡ 0
  cleared-here j o e h one =
      let c = entry k e j in
      let low = entry_below e j in
      entry-cleared j o e j h
      ∙ ap (k.sub c) (ap (k.mul c) one ∙ l.mul_comm c 1 low (one_below k l) ∙ l.one-mul c low)
      ∙ sub-self c low

  -- where the other has zero nothing changes
  pub cleared-else : (j : ℕ) (o e : Equation) (i : ℕ) → i < most_data → entry k o i ≡ 0 → entry k (cleared k j o e) i ≡ entry k e i
  cleared-else j o e i h z =
      entry-cleared j o e i h
      ∙ ap (k.sub (entry k e i)) (ap (k.mul (entry k e j)) z ∙ mul-zero k l _ (entry_below e j))
      ∙ sub-zero _ (entry_below e i)
