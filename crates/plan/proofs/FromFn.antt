-- The array that `from_fn` makes of a closure that no call changes.
use Rattle.std.proofs.Common.{◌≡◌, ℕ, zero, suc, ◌+◌, ◌<◌, List, map, get_or, sym, refl, ◌∙◌, subst, arith}
use Rattle.std.proofs.lemmas.List.FromFn.{fill_by_all}
use Rattle.std.specs.List.{range_with_len}
use Rattle.std.specs.Fn.{Mut, Called}
use Rattle.std.specs.Array.{IsFromFnResultFrom, IsFromFnResult}

module _ {F B : Type 0} (g : Mut F (ℕ × Unit {0}) B) (f : F) (made : ℕ → B) (answers : (i : ℕ) (y : B) (f' : F) → Called g f (i, tt) y f' → (y ≡ made i) × (f' ≡ f)) where
  -- the element at index j is what the call at j answered
  made_at : (ys : List B) (d : B) (i n : ℕ) (q : F) → q ≡ f → IsFromFnResultFrom g q ys i n → (j : ℕ) → j < n → get_or ys (i + j) d ≡ made (i + j)
  made_at ys d i zero q e h j l = absurd (let z : ⊥ = omega arith in z)
  made_at ys d i (suc n) q e h zero l =
      let now = answers i (h.1) (h.0) (subst (λ p. Called g p (i, tt) (h.1) (h.0)) e (h.3)) in
      let at : i + 0 ≡ i = omega arith in
      subst (λ k. get_or ys k d ≡ made k) (sym at) (h.2.1 d ∙ now.0)
  made_at ys d i (suc n) q e h (suc j) l =
      let now = answers i (h.1) (h.0) (subst (λ p. Called g p (i, tt) (h.1) (h.0)) e (h.3)) in
      let at : i + 1 + j ≡ i + suc j = omega arith in
      subst (λ k. get_or ys k d ≡ made k) at (made_at ys d (i + 1) n (h.0) now.1 (h.4) j (omega arith))

  pub from_fn_is : (ys : List B) (n : ℕ) → IsFromFnResult g f ys n → ys ≡ map made (range_with_len 0 n)
  from_fn_is ys n h =
      fill_by_all made ys n (made 0) h.long
      (λ j l. let at : 0 + j ≡ j = omega arith in subst (λ k. get_or ys k (made 0) ≡ made k) at (made_at ys (made 0) 0 n f refl h.each j l))
