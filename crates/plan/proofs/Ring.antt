-- What follows from the laws of a field, on codes.
use Rattle.std.proofs.Common.{◌≡◌, ℕ, ◌<◌, sym, ap, ap₂, ◌∙◌}
use Rattle.field.specs.Arithmetic.{Arithmetic, Lawful}
use Rattle.field.specs.Laws.{zero_below, add-zero}

module _ (k : Arithmetic) (l : Lawful k) where
  -- the negative of a code
  abbrev pub minus : ℕ → ℕ
  minus a = k.sub 0 a

  pub minus_below : (a : ℕ) → a < k.order → minus a < k.order
  minus_below a h = l.sub_below 0 a (zero_below k l) h

  -- a code and its negative add up to zero
  pub add-minus : (a : ℕ) → a < k.order → k.add a (minus a) ≡ 0
  add-minus a h = l.add_comm a (minus a) h (minus_below a h) ∙ l.sub-add 0 a (zero_below k l) h

  -- adding c is undone by adding its negative
  undone : (a c : ℕ) → a < k.order → c < k.order → k.add (k.add a c) (minus c) ≡ a
  undone a c h hc = l.add_assoc a c (minus c) h hc (minus_below c hc) ∙ ap (k.add a) (add-minus c hc) ∙ add-zero k l a h

  -- so a summand may be dropped on both sides
  pub add-cancel : (a b c : ℕ) → a < k.order → b < k.order → c < k.order → k.add a c ≡ k.add b c → a ≡ b
  add-cancel a b c ha hb hc e = sym (undone a c ha hc) ∙ ap (λ y. k.add y (minus c)) e ∙ undone b c hb hc

  -- and the difference is what adds up to the minuend
  pub sub-from : (a b c : ℕ) → a < k.order → b < k.order → c < k.order → k.add c b ≡ a → k.sub a b ≡ c
  sub-from a b c ha hb hc e = add-cancel (k.sub a b) c b (l.sub_below a b ha hb) hc hb (l.sub-add a b ha hb ∙ sym e)

  -- the product distributes over a sum on the left too
  pub add-mul : (a b c : ℕ) → a < k.order → b < k.order → c < k.order → k.mul (k.add a b) c ≡ k.add (k.mul a c) (k.mul b c)
  add-mul a b c ha hb hc =
      l.mul_comm (k.add a b) c (l.add_below a b ha hb) hc ∙ l.mul-add c a b hc ha hb ∙ ap₂ k.add (l.mul_comm c a hc ha) (l.mul_comm c b hc hb)

  -- zero times anything is zero, since it adds nothing to itself
  pub mul-zero : (a : ℕ) → a < k.order → k.mul a 0 ≡ 0
  mul-zero a h =
      let z = zero_below k l in
      let m = l.mul_below a 0 h z in
      sym (add-cancel 0 (k.mul a 0) (k.mul a 0) z m m (l.zero-add (k.mul a 0) m ∙ ap (k.mul a) (sym (l.zero-add 0 z)) ∙ l.mul-add a 0 0 h z z))

  pub zero-mul : (a : ℕ) → a < k.order → k.mul 0 a ≡ 0
  zero-mul a h = l.mul_comm 0 a (zero_below k l) h ∙ mul-zero a h

  -- (a + b) + (c + d) is (a + c) + (b + d)
  pub exchange : (a b c d : ℕ) → a < k.order → b < k.order → c < k.order → d < k.order → k.add (k.add a b) (k.add c d) ≡ k.add (k.add a c) (k.add b d)
  exchange a b c d ha hb hc hd =
      l.add_assoc a b (k.add c d) ha hb (l.add_below c d hc hd)
      ∙ ap (k.add a) (sym (l.add_assoc b c d hb hc hd) ∙ ap (λ y. k.add y d) (l.add_comm b c hb hc) ∙ l.add_assoc c b d hc hb hd)
      ∙ sym (l.add_assoc a c (k.add b d) ha hc (l.add_below b d hb hd))
