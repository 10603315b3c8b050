-- Sums of products of a row that is made from other rows.
use Rattle.std.proofs.Common.{◌≡◌, ℕ, zero, suc, ◌<◌, List, [], ◌∷◌, map, sym, refl, ap, ap₂, ◌∙◌}
use Rattle.std.specs.List.{All}
use Rattle.std.proofs.lemmas.List.Elements.{All-head, All-tail}
use Rattle.field.specs.Arithmetic.{Arithmetic, Lawful}
use Rattle.field.specs.Laws.{zero_below}
use Rattle.plan.specs.Rows.{dot}
use Rattle.plan.proofs.Dots.{Codes, dot_below}
use Rattle.plan.proofs.Ring.{add-mul, mul-zero, zero-mul, exchange}

module _ (k : Arithmetic) (l : Lawful k) where
  -- a row of codes has codes
  pub map_codes : (r : ℕ → ℕ) (js : List ℕ) → ((j : ℕ) → r j < k.order) → Codes k (map r js)
  map_codes r [] h j = zero_below k l
  map_codes r (i ∷ is) h zero = h i
  map_codes r (i ∷ is) h (suc j) = map_codes r is h j

  -- one column more of a row that `b` times another adds up with to a third
  pub less_more : (b x r t s R T S : ℕ) → b < k.order → x < k.order → r < k.order → t < k.order → R < k.order → T < k.order
      → k.add r (k.mul b t) ≡ s → k.add R (k.mul b T) ≡ S → k.add (k.add (k.mul r x) R) (k.mul b (k.add (k.mul t x) T)) ≡ k.add (k.mul s x) S
  less_more b x r t s R T S hb hx hr ht hR hT e E =
      let rx = l.mul_below r x hr hx in
      let tx = l.mul_below t x ht hx in
      ap (k.add (k.add (k.mul r x) R)) (l.mul-add b (k.mul t x) T hb tx hT)
      ∙ exchange k l (k.mul r x) R (k.mul b (k.mul t x)) (k.mul b T) rx hR (l.mul_below b _ hb tx) (l.mul_below b T hb hT)
      ∙ ap₂ k.add
      (ap (k.add (k.mul r x)) (sym (l.mul_assoc b t x hb ht hx)) ∙ sym (add-mul k l r (k.mul b t) x hr (l.mul_below b t hb ht) hx) ∙ ap (λ y. k.mul y x) e)
      E

  -- What such a row gives, and `b` times what the other gives, add up to what the third gives.
  pub dot-less : (b : ℕ) (r t s : ℕ → ℕ) → b < k.order → ((j : ℕ) → r j < k.order) → ((j : ℕ) → t j < k.order) → ((j : ℕ) → k.add (r j) (k.mul b (t j)) ≡ s j)
      → (js v : List ℕ) → Codes k v → k.add (dot k (map r js) v) (k.mul b (dot k (map t js) v)) ≡ dot k (map s js) v
  unfolding dot
  dot-less b r t s hb hr ht e [] v hv = l.zero-add _ (l.mul_below b 0 hb (zero_below k l)) ∙ mul-zero k l b hb
  dot-less b r t s hb hr ht e (j ∷ js) [] hv = l.zero-add _ (l.mul_below b 0 hb (zero_below k l)) ∙ mul-zero k l b hb
  dot-less b r t s hb hr ht e (j ∷ js) (x ∷ xs) hv =
      let hxs : Codes k xs = λ i. hv (suc i) in
      less_more b x (r j) (t j) (s j) (dot k (map r js) xs) (dot k (map t js) xs) (dot k (map s js) xs) hb (hv 0) (hr j) (ht j)
      (dot_below k l (map r js) xs (map_codes r js hr) hxs) (dot_below k l (map t js) xs (map_codes t js ht) hxs) (e j)
      (dot-less b r t s hb hr ht e js xs hxs)

  -- one column more of `b` times a row
  pub times_more : (b x r t R T : ℕ) → b < k.order → x < k.order → t < k.order → T < k.order
      → r ≡ k.mul b t → R ≡ k.mul b T → k.add (k.mul r x) R ≡ k.mul b (k.add (k.mul t x) T)
  times_more b x r t R T hb hx ht hT e E =
      ap₂ k.add (ap (λ y. k.mul y x) e ∙ l.mul_assoc b t x hb ht hx) E ∙ sym (l.mul-add b (k.mul t x) T hb (l.mul_below t x ht hx) hT)

  -- `b` times a row gives `b` times what the row gives.
  pub dot-times : (b : ℕ) (r t : ℕ → ℕ) → b < k.order → ((j : ℕ) → t j < k.order) → ((j : ℕ) → r j ≡ k.mul b (t j))
      → (js v : List ℕ) → Codes k v → dot k (map r js) v ≡ k.mul b (dot k (map t js) v)
  unfolding dot
  dot-times b r t hb ht e [] v hv = sym (mul-zero k l b hb)
  dot-times b r t hb ht e (j ∷ js) [] hv = sym (mul-zero k l b hb)
  dot-times b r t hb ht e (j ∷ js) (x ∷ xs) hv =
      let hxs : Codes k xs = λ i. hv (suc i) in
      times_more b x (r j) (t j) (dot k (map r js) xs) (dot k (map t js) xs) hb (hv 0) (ht j)
      (dot_below k l (map t js) xs (map_codes t js ht) hxs) (e j)
      (dot-times b r t hb ht e js xs hxs)

  -- a row of zeros gives zero
  pub dot-none : (r : ℕ → ℕ) (js v : List ℕ) → Codes k v → All (λ j. r j ≡ 0) js → dot k (map r js) v ≡ 0
  unfolding dot
  dot-none r [] v hv e = refl
  dot-none r (j ∷ js) [] hv e = refl
  dot-none r (j ∷ js) (x ∷ xs) hv e =
      ap₂ k.add (ap (λ y. k.mul y x) (All-head (λ j. r j ≡ 0) j js e) ∙ zero-mul k l x (hv 0)) (dot-none r js xs (λ i. hv (suc i)) (All-tail (λ j. r j ≡ 0) j js e))
      ∙ l.zero-add 0 (zero_below k l)
