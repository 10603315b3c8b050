-- A sweep, one place more at a time.
use Rattle.std.proofs.Common.{◌≡◌, ℕ, ◌+◌, ◌<◌, ◌≤◌, List, [], ◌∷◌, ◌++◌, length, map, set, take, None, Ok, Option, Result, sym, refl, ap, ap₂, ◌∙◌, subst, cond, arith}
use Rattle.std.proofs.lemmas.List.{length_push, map-append, take_more_set, take_all}
use Rattle.std.proofs.lemmas.Bool.{lt-leb, le-ltb}
use Rattle.field.specs.Arithmetic.{Arithmetic}
use Rattle.plan.specs.Coefficients.{Coefficients}
use Rattle.shelf.specs.declared.refusal.Refusal.{Refusal}
use Rattle.shelf.specs.Refusals.{bay_refusal, run_refusal}
use Rattle.shelf.specs.Table.{Table}
use Rattle.shelf.proofs.Words.{bay_fit, run_fit}
use Rattle.array.specs.declared.coded.Array.{Array}
use Rattle.array.specs.declared.mending.Mending.{Mending}
use Rattle.array.specs.Decoding.{matched}
use Rattle.array.specs.Service.{mend_number, refuses_mend, refuses_sweep, Mends, MendReads, Serves, AllMends, SweptWhen, Sweeps}

module _ {S P : Type 0} (table : S → Table) (sound : S → Type 0) (k : Arithmetic) (coefficients : P → Coefficients) (b : ℕ) where
  -- one mend of the sweep
  abbrev Mend : Array S P → Array S P → ℕ → Result Mending Refusal → Type 0
  Mend now next p r = Serves table sound k coefficients now next (refuses_mend b p) (Mends b p) r × MendReads table sound k coefficients now next b p r

  -- one mend after the others
  mends_more : (first i : ℕ) (before now next : Array S P) (rs : List (Result Mending Refusal)) (r : Result Mending Refusal) → length rs ≡ i → AllMends table sound k coefficients b first before rs now
      → Mend now next (first + i) r → AllMends table sound k coefficients b first before (rs ++ r ∷ []) next
  mends_more first i before now next [] r is e mend =
      let at : first + i ≡ first = omega arith in
      let one = subst (λ (a : Array S P). Mend a next first r) e (subst (λ p. Mend now next p r) at mend) in
      (next, one.0, one.1, refl)
  mends_more first i before now next (q ∷ rs) r is (then, one, reads, others) mend =
      let at : first + i ≡ first + 1 + length rs = omega arith in
      (then, one, reads, mends_more (first + 1) (length rs) then now next rs r refl others (subst (λ p. Mend now next p r) at mend))

  -- after i places: the mends so far, and their numbers in the first bytes
  abbrev pub Sweeping : ℕ → Array S P → Array S P → List ℕ → ℕ → Type 0
  Sweeping first before now bytes i =
      (rs : List (Result Mending Refusal)) × (length rs ≡ i) × AllMends table sound k coefficients b first before rs now × (take i bytes ≡ map mend_number rs)

  pub first_place : (first : ℕ) (before : Array S P) (bytes : List ℕ) → Sweeping first before before bytes 0
  first_place first before bytes = ([], refl, refl, refl)

  pub next_place : (first : ℕ) (before now next : Array S P) (bytes : List ℕ) (i : ℕ) (r : Result Mending Refusal) (byte : ℕ) → i < length bytes → byte ≡ mend_number r → Sweeping first before now bytes i
      → Mend now next (first + i) r → Sweeping first before next (set bytes i byte) (i + 1)
  next_place first before now next bytes i r byte few is (rs, long, all, put) mend = (
    rs ++ r ∷ [],
    length_push rs r ∙ ap (λ m. m + 1) long,
    mends_more first i before now next rs r long all mend,
    take_more_set bytes i byte few ∙ ap₂ (λ ys y. ys ++ y ∷ []) put is ∙ sym (map-append mend_number rs (r ∷ [])),
  )

  -- at the end of the run
  pub all_places : (first : ℕ) (before now : Array S P) (bytes bytes' : List ℕ) (i n m : ℕ) → length bytes' ≡ length bytes → length bytes ≤ i
      → n ≡ cond (matched k (coefficients before.plan) (table before.below)) (table before.below).bays 0 → m ≡ cond (matched k (coefficients before.plan) (table before.below)) (table before.below).places 0
      → bay_refusal n b ≡ None → run_refusal m first (length bytes) ≡ None → Sweeping first before now bytes' i → Sweeps table sound k coefficients before now b first bytes bytes' (Ok tt)
  all_places first before now bytes bytes' i n m same end bays places no_bay no_run (rs, long, all, put) =
      let x = coefficients before.plan in
      let d = bay_fit n b no_bay in
      let there = run_fit m first (length bytes) no_run in
      let e = lt-leb (cond (matched k x (table before.below)) (table before.below).bays 0) b (subst (λ n. b < n) bays d) in
      let f = le-ltb (cond (matched k x (table before.below)) (table before.below).places 0) (first + length bytes) (subst (λ m. first + length bytes ≤ m) places there) in
      let none : refuses_sweep b first (length bytes) k x (table before.below) ≡ None = simp (e, f) in
      subst (λ (o : Option Refusal). SweptWhen table sound k coefficients before now b first bytes bytes' o (Ok tt)) (sym none)
      (refl, (rs, all, sym (take_all i bytes' (omega arith)) ∙ put))
