-- A call on one bay of a pair: what the shelf that has the bay shows of it, the pair shows.
use Rattle.std.proofs.Common.{◌≡◌, ℕ, ◌+◌, ◌<◌, Ok, Option, Result, refl, ap, subst, arith}
use Rattle.shelf.specs.declared.refusal.Refusal.{Refusal}
use Rattle.shelf.specs.Table.{Table}
use Rattle.shelf.specs.Calls.{Outcome}
use Rattle.layers.specs.declared.pair.Half.{Half}
use Rattle.layers.specs.declared.pair.Half.TheVariants.{First, Second}
use Rattle.layers.specs.declared.pair.Pair.{Pair}
use Rattle.layers.specs.Pairs.{paired, InHalf, pair_table, Both, Aside}
use Rattle.layers.proofs.Parting.{Part, part_settled}
use Rattle.layers.proofs.Beside.{fit_table, first_part, second_part}

-- A kind of call, by why it is refused and what it promises of a bay. What it shows of a part of a table, it shows of the whole.
pub record Kind {A : Type 0} (refusal : ℕ → Table → Option Refusal) (promise : ℕ → Table → Table → Result A Refusal → Type 0) : Type 0 where
  pub alike : (k : ℕ) (s s' u u' : Table) → Part k s s' u u' → (b x : ℕ) → b ≡ k + x → x < s.bays → refusal x s ≡ refusal b u
  pub lifts : (k : ℕ) (s s' u u' : Table) → Part k s s' u u' → (b x : ℕ) → b ≡ k + x → x < s.bays → (r : Result A Refusal) → promise x s s' r → promise b u u' r

-- What the two lemmas below are told: the tables and the states in order of the two shelves, and the kind of the call.
module _ {A B X : Type 0} (f : A → Table) (P : A → Type 0) (g : B → Table) (Q : B → Type 0) (refusal : ℕ → Table → Option Refusal) (promise : ℕ → Table → Table → Result X Refusal → Type 0) (kind : Kind refusal promise) (x : Pair A B) (b : ℕ) (half : Half) (found : InHalf (f x.first) (g x.second) b (Ok half)) where
  -- the first shelf has the bay
  pub on_first : half ≡ First → (a : A) (r : Result X Refusal) → Outcome f P x.first a (refusal b) (promise b) r → Outcome (pair_table f g) (Both P Q) x (record { first = a; second = x.second }) (refusal b) (promise b) r
  on_first is a r done =
      let (fit, h) = subst (λ y. InHalf (f x.first) (g x.second) b (Ok y)) is found in
      let s = f x.first in
      let s' = f a in
      let u = pair_table f g x in
      let u' = paired s' (g x.second) in
      let part = first_part s s' (g x.second) fit done.0 in
      let at : b ≡ 0 + b = omega arith in
      part_settled 0 s s' u u' part b b at h (P x.first) (P a) (Both P Q x) (P a × Q x.second) (λ y. y.0) (λ y z. (y, z.1)) refusal promise r
      (kind.alike 0 s s' u u' part b b at h) (kind.lifts 0 s s' u u' part b b at h r) done

  -- the second has it, under another number
  pub on_second : (z : ℕ) → half ≡ Second z → (c : B) (r : Result X Refusal) → Outcome g Q x.second c (refusal z) (promise z) r → Outcome (pair_table f g) (Both P Q) x (record { first = x.first; second = c }) (refusal b) (promise b) r
  on_second z is c r done =
      let (fit, at, h) = subst (λ y. InHalf (f x.first) (g x.second) b (Ok y)) is found in
      let t = g x.second in
      let t' = g c in
      let u = pair_table f g x in
      let u' = paired (f x.first) t' in
      let part = second_part (f x.first) t t' fit done.0 in
      part_settled (f x.first).bays t t' u u' part b z at h (Q x.second) (Q c) (Both P Q x) (P x.first × Q c) (λ y. y.1) (λ y w. (w.0, y)) refusal promise r
      (kind.alike (f x.first).bays t t' u u' part b z at h) (kind.lifts (f x.first).bays t t' u u' part b z at h r) done

-- and the other shelf stands still
module _ {A B : Type 0} (f : A → Table) (g : B → Table) (x : Pair A B) (b : ℕ) (half : Half) (found : InHalf (f x.first) (g x.second) b (Ok half)) where
  pub aside_first : half ≡ First → (a : A) → Aside f g b x (record { first = a; second = x.second })
  aside_first is a =
      let (fit, h) = subst (λ y. InHalf (f x.first) (g x.second) b (Ok y)) is found in
      let all = ap (λ (u : Table). u.bays) (fit_table (f x.first) (g x.second) fit) in
      record { second = λ l. refl; first = λ l. absurd (let y : ⊥ = omega (arith, l, h) in y); lacking = λ l. absurd (let y : ⊥ = omega (arith, l, h, all) in y) }

  pub aside_second : (z : ℕ) → half ≡ Second z → (c : B) → Aside f g b x (record { first = x.first; second = c })
  aside_second z is c =
      let (fit, at, h) = subst (λ y. InHalf (f x.first) (g x.second) b (Ok y)) is found in
      let all = ap (λ (u : Table). u.bays) (fit_table (f x.first) (g x.second) fit) in
      record { second = λ l. absurd (let y : ⊥ = omega (arith, l, at) in y); first = λ l. refl; lacking = λ l. absurd (let y : ⊥ = omega (arith, l, at, h, all) in y) }
