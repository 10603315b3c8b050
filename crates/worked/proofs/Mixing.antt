-- A combination of the rows of some bays.
use Rattle.std.proofs.Common.{◌≡◌, ℕ, suc, ◌+◌, ◌<◌, Bool, true, List, [], ◌∷◌, map, sym, refl, ap, ◌∙◌}
use Rattle.std.specs.List.{All, range_with_len}
use Rattle.field.specs.Arithmetic.{Arithmetic, Lawful}
use Rattle.plan.specs.Coefficients.{Coefficients, Fitting}
use Rattle.plan.specs.Rows.{entry, row, dot, Tells}
use Rattle.plan.proofs.Dots.{Codes, vector_codes, dot_below}
use Rattle.plan.proofs.Rows.{entry_code, row-codes}
use Rattle.plan.proofs.Sums.{map_codes, dot-less, dot-none}
use Rattle.plan.proofs.Vectors.{dot-comm}

-- column i of the combination, and the whole row
abbrev pub mixed_at : Arithmetic → Coefficients → List ℕ → List ℕ → ℕ → ℕ
mixed_at k x cs bs i = dot k cs (map (λ b. entry x b i) bs)

abbrev pub mixed : Arithmetic → Coefficients → List ℕ → List ℕ → List ℕ
mixed k x cs bs = map (mixed_at k x cs bs) (range_with_len 0 x.n)

module _ (k : Arithmetic) (l : Lawful k) (x : Coefficients) (fit : Fitting k x) where
  mixed_code : (cs bs : List ℕ) → Codes k cs → (i : ℕ) → mixed_at k x cs bs i < k.order
  mixed_code cs bs hc i = dot_below k l cs (map (λ b. entry x b i) bs) hc (map_codes k l (λ b. entry x b i) bs (λ b. entry_code k l x fit b i))

  -- It gives on a vector the combination of what the rows give: a row more adds its part to each column.
  mix : (cs bs is v : List ℕ) → Codes k cs → Codes k v → dot k (map (mixed_at k x cs bs) is) v ≡ dot k cs (map (λ b. dot k (map (entry x b) is) v) bs)
  unfolding dot
  mix [] bs is v hc hv = dot-none k l (mixed_at k x [] bs) is v hv (λ j d few. refl)
  mix (c ∷ cs) [] is v hc hv = dot-none k l (mixed_at k x (c ∷ cs) []) is v hv (λ j d few. refl)
  mix (c ∷ cs) (b ∷ bs) is v hc hv =
      let hcs : Codes k cs = λ j. hc (suc j) in
      let part = l.mul_below c (dot k (map (entry x b) is) v) (hc 0) (dot_below k l (map (entry x b) is) v (map_codes k l (entry x b) is (entry_code k l x fit b)) hv) in
      let rest = dot_below k l (map (mixed_at k x cs bs) is) v (map_codes k l (mixed_at k x cs bs) is (mixed_code cs bs hcs)) hv in
      sym (dot-less k l c (mixed_at k x cs bs) (entry x b) (mixed_at k x (c ∷ cs) (b ∷ bs)) (hc 0) (mixed_code cs bs hcs) (entry_code k l x fit b)
      (λ i. l.add_comm (mixed_at k x cs bs i) (k.mul c (entry x b i)) (mixed_code cs bs hcs i) (l.mul_below c (entry x b i) (hc 0) (entry_code k l x fit b i))) is v hv)
      ∙ l.add_comm (dot k (map (mixed_at k x cs bs) is) v) (k.mul c (dot k (map (entry x b) is) v)) rest part
      ∙ ap (k.add (k.mul c (dot k (map (entry x b) is) v))) (mix cs bs is v hcs hv)

  -- So bays whose rows make a row tell it: where they all give zero, so does the combination.
  pub mixed_tells : (cs bs : List ℕ) (set : ℕ → Bool) (r : ℕ) → Codes k cs → mixed k x cs bs ≡ row x r → All (λ b. (b < x.n + x.m) × (set b ≡ true)) bs → Tells k x set r
  unfolding row
  mixed_tells cs bs set r hc is within v hv zeros =
      let codes_v = vector_codes k l x.n v hv in
      let given : ℕ → ℕ = λ b. dot k (row x b) v in
      let codes_given : Codes k (map given bs) = map_codes k l given bs (λ b. dot_below k l (row x b) v (row-codes k l x fit b) codes_v) in
      ap (λ row. dot k row v) (sym is) ∙ mix cs bs (range_with_len 0 x.n) v hc codes_v
      ∙ dot-comm k l cs (map given bs) hc codes_given
      ∙ dot-none k l given bs cs hc (λ i d few. let (low, on) = within i d few in zeros _ low on)
