-- The worked examples: one test that antt computes over the table, and one lemma that turns it into the statement.
use Rattle.std.proofs.Common.{◌≡◌, ℕ, ◌+◌, ◌^◌, ◌<◌, Bool, true, false, not, ◌&&◌, eqb, leb, ltb, ◌≢◌, List, [], ◌∷◌, ◌++◌, map, length, get_or, set, sym, refl, ap, ◌∙◌, subst, arith}
use Rattle.std.specs.Prelude.{MatchBool}
use Rattle.std.proofs.lemmas.List.FromFn.{get_or-map-range_with_len}
use Rattle.std.specs.List.{list_all, range_with_len}
use Rattle.std.specs.Bool.{beq}
use Rattle.std.specs.Cmp.{booleans_Decides}
use Rattle.std.specs.Str.{bytes_eq}
use Rattle.std.proofs.lemmas.Slice.Eq.{bytes_eq-Decides}
use Rattle.std.proofs.lemmas.Bool.{and_parts, not-true, ltb-true, leb-true, eqb-true, eqb-false}
use Rattle.field.specs.Arithmetic.{Arithmetic, Lawful}
use Rattle.field.specs.Laws.{inverse_is, quotient_is}
use Rattle.field.specs.LawfulFields as fields
use Rattle.plan.specs.Bounds.{most_data, most_checks}
use Rattle.plan.specs.Coefficients.{Coefficients, Fitting}
use Rattle.plan.specs.Powers.{powers}
use Rattle.plan.specs.Powering.{powers_fitting}
use Rattle.plan.specs.Rows.{row, dot, Tells}
use Rattle.shelf.specs.Table.{holds}
use Rattle.shelf.specs.Calls.{bit, Set}
use Rattle.array.specs.Decoding.{AllowsOne}
use Rattle.array.specs.Changes.{row_words}
use Rattle.array.specs.Moving.{rewritten, Becomes}
use Rattle.array.proofs.Decay.{tells_more}
use Rattle.array.proofs.Tests.{all_at}
use Rattle.worked.specs.Places.{among}
use Rattle.worked.specs.Examples.{Name, nibble, byte, count, arithmetic_of, Example, product, quotient, inverse, lays, writes, reads, mends, tells, loses, answers, Writes, Mends, TellsAll, LosesAll, Answers, Holds, AllHold}
use Rattle.worked.proofs.Telling.{tells_test, loses_test, told, untold, allows, read, lost}
use Rattle.worked.proofs.Bits.{same_bits}

-- each of the three keeps the laws
lawful : (k : Name) → Lawful (arithmetic_of k)
lawful nibble = (fields.nibble).laws
lawful byte = (fields.byte).laws
lawful count = fields.count

-- b is a code that has an inverse, r is a code, and r times b is a
divides : Arithmetic → ℕ → ℕ → ℕ → Bool
divides k a b r = (ltb b k.order && not (eqb b 0)) && (ltb r k.order && eqb (k.mul r b) a)

-- the bounds of a plan
bounded : ℕ → ℕ → Bool
bounded n m = (leb 1 n && leb n most_data) && (leb 1 m && leb m most_checks)

-- a bay of the array is told
reads_test : Arithmetic → Coefficients → List ℕ → ℕ → List ℕ → Bool
reads_test k x left j cs = (bounded x.n x.m && ltb j x.n) && tells_test k x left j cs

-- the word of every bay after a write
after_write : Arithmetic → Coefficients → List ℕ → ℕ → ℕ → List ℕ
after_write k x words j new = map (λ b. rewritten k x j (get_or words j 0) new b (get_or (row_words k x words) b 0)) (range_with_len 0 (x.n + x.m))

-- bits that are those of the bays left, and all bits above
answers_test : Arithmetic → Coefficients → List ℕ → ℕ → ℕ → List (List ℕ) → Bool
answers_test k x left low bits cs =
    (list_all (λ b. beq (bit low b) (among left b)) (range_with_len 0 (x.n + x.m)) && ltb bits (2 ^ x.n))
    && list_all (λ j. bit bits j && reads_test k x left j (get_or cs j [])) (range_with_len 0 x.n)

-- what is computed for an example: of an inverse, that its product is one
test : Example → Bool
unfolding divides bounded reads_test after_write answers_test
test (product k a b r) = eqb ((arithmetic_of k).mul a b) r
test (quotient k a b r) = divides (arithmetic_of k) a b r
test (inverse k a r) = eqb ((arithmetic_of k).mul a r) 1 && divides (arithmetic_of k) 1 a r
test (lays k words checks) = bytes_eq (row_words (arithmetic_of k) (powers (arithmetic_of k) (length words) (length checks)) words) (words ++ checks)
test (writes k words j new checks) = bytes_eq (after_write (arithmetic_of k) (powers (arithmetic_of k) (length words) (length checks)) words j new) (set words j new ++ checks)
test (reads k m words left j word c) = reads_test (arithmetic_of k) (powers (arithmetic_of k) (length words) m) left j c && eqb (get_or words j 0) word
test (mends k m words left b word c) =
    (bounded (length words) m && tells_test (arithmetic_of k) (powers (arithmetic_of k) (length words) m) left b c)
    && eqb (dot (arithmetic_of k) (row (powers (arithmetic_of k) (length words) m) b) words) word
test (tells k n m left j c) = reads_test (arithmetic_of k) (powers (arithmetic_of k) n m) left j c
test (loses k n m left j z) = (bounded n m && ltb j n) && loses_test (arithmetic_of k) (powers (arithmetic_of k) n m) left j z
test (answers k m words left low bits cs) = answers_test (arithmetic_of k) (powers (arithmetic_of k) (length words) m) left low bits cs

pub record Divides (k : Arithmetic) (a b r : ℕ) : Type 0 where
  pub divisor : b < k.order
  pub nonzero : b ≢ 0
  pub result : r < k.order
  pub back : k.mul r b ≡ a

-- the test of a division, read part by part
divided : (k : Arithmetic) (a b r : ℕ) → divides k a b r ≡ true → Divides k a b r
unfolding divides
divided k a b r t =
    let both = and_parts _ _ t in
    let front = and_parts _ _ both.0 in
    let back = and_parts _ _ both.1 in
    record {
      divisor = ltb-true _ _ front.0;
      nonzero = eqb-false _ _ (not-true _ front.1);
      result = ltb-true _ _ back.0;
      back = eqb-true _ _ back.1;
    }

-- a bit that says which of two things holds is set where the first does
told_bit : (b : Bool) (P : Type 0) → MatchBool b P (P → ⊥) → P → b ≡ true
told_bit true P h p = refl
told_bit false P h p = absurd (h p)

-- equal lists
same_words : (xs ys : List ℕ) → bytes_eq xs ys ≡ true → xs ≡ ys
same_words xs ys e = (bytes_eq-Decides xs ys).0 e

module _ (k : Arithmetic) (l : Lawful k) where
  -- a plan of powers within the bounds fits
  fits : (n m : ℕ) → bounded n m ≡ true → Fitting k (powers k n m)
  unfolding bounded
  fits n m e =
      let (data_bays, check_bays) = and_parts _ _ e in
      let (a, b) = and_parts _ _ data_bays in
      let (c, d) = and_parts _ _ check_bays in
      powers_fitting k l n m (leb-true _ _ a) (leb-true _ _ b) (leb-true _ _ c) (leb-true _ _ d)

  module _ (n m : ℕ) where
    -- a data bay that passes is told
    reads_told : (left : List ℕ) (j : ℕ) (cs : List ℕ) → reads_test k (powers k n m) left j cs ≡ true → Fitting k (powers k n m) × (j < n) × Tells k (powers k n m) (among left) j
    unfolding reads_test
    reads_told left j cs e =
        let (front, passes) = and_parts _ _ e in
        let (bounds, few) = and_parts _ _ front in
        let fit = fits n m bounds in
        (fit, ltb-true _ _ few, told k l (powers k n m) fit left j cs passes)

    right_tells : (left : List ℕ) (j : ℕ) (cs : List ℕ) → reads_test k (powers k n m) left j cs ≡ true → TellsAll k (powers k n m) left j
    right_tells left j cs e words t p h = let (fit, few, is) = reads_told left j cs e in read k l (powers k n m) fit left t p words h j few is

    right_loses : (left : List ℕ) (j : ℕ) (z : List ℕ) → (bounded n m && ltb j n) && loses_test k (powers k n m) left j z ≡ true → LosesAll k (powers k n m) left j
    right_loses left j z e words t p h =
        let (front, passes) = and_parts _ _ e in
        let (bounds, few) = and_parts _ _ front in
        let fit = fits n m bounds in
        lost k l (powers k n m) fit left t p words h j (ltb-true _ _ few) (untold k l (powers k n m) fit left j z passes)

    right_mends : (words left : List ℕ) (b word : ℕ) (cs : List ℕ) → (bounded n m && tells_test k (powers k n m) left b cs) && eqb (dot k (row (powers k n m) b) words) word ≡ true → Mends k (powers k n m) words left b word
    right_mends words left b word cs e t p h =
        let (front, is) = and_parts _ _ e in
        let (bounds, passes) = and_parts _ _ front in
        let fit = fits n m bounds in
        let one = subst (AllowsOne k (powers k n m) t b p) (eqb-true _ _ is) (allows k l (powers k n m) fit left t p words h b (told k l (powers k n m) fit left b cs passes)) in
        (one, λ u (w, some, set, filled). subst (λ w. Set w (u.cell b p)) (one.1 w some.0) set)

    -- the bits above are those of the table, one after the other
    right_answers : (words left : List ℕ) (low bits : ℕ) (cs : List (List ℕ)) → answers_test k (powers k n m) left low bits cs ≡ true → Answers k (powers k n m) words left low bits
    unfolding answers_test
    right_answers words left low bits cs e =
        let (front, each) = and_parts _ _ e in
        let (below, high) = and_parts _ _ front in
        let same : (b : ℕ) → b < n + m → bit low b ≡ among left b =
        λ b few. (booleans_Decides (bit low b) (among left b)).0 (all_at (λ b. beq (bit low b) (among left b)) 0 (n + m) b below (omega arith) (omega arith)) in (
          same,
          λ s t p r h is. same_bits n r bits h.others (ltb-true bits (2 ^ n) high) (λ j few.
              let (on, passes) = and_parts _ _ (all_at (λ j. bit bits j && reads_test k (powers k n m) left j (get_or cs j [])) 0 n j each (omega arith) (omega arith)) in
              let (fit, few', known) = reads_told left j (get_or cs j []) passes in
              let below_known : Tells k (powers k n m) (bit h.low) j =
              tells_more k (powers k n m) (among left) (bit h.low) j (λ b f has. ap (λ low. bit low b) is ∙ same b f ∙ has) known in
              told_bit (bit r j) (Tells k (powers k n m) (bit h.low) j) (h.told j few) below_known ∙ sym on),
        )

    right_writes : (words : List ℕ) (j new : ℕ) (checks : List ℕ) → bytes_eq (after_write k (powers k n m) words j new) (set words j new ++ checks) ≡ true → Writes k (powers k n m) words j new checks
    unfolding after_write
    right_writes words j new checks e s t p cells is b few =
        let row_word = get_or (row_words k (powers k n m) words) b 0 in
        let after = rewritten k (powers k n m) j (get_or words j 0) new b row_word in
        let word : after ≡ get_or (set words j new ++ checks) b 0 =
        sym (get_or-map-range_with_len (λ b. rewritten k (powers k n m) j (get_or words j 0) new b (get_or (row_words k (powers k n m) words) b 0)) 0 (n + m) b b 0 few (omega arith))
        ∙ ap (λ all. get_or all b 0) (same_words _ _ e) in
        subst (λ w. Set w (t.cell b p)) word (subst (λ c. Becomes (rewritten k (powers k n m) j (get_or words j 0) new b) c (t.cell b p)) (cells b few) (is.cells b few))

-- an example that passes holds: a partner is the inverse, since a code has at most one
right : (e : Example) → test e ≡ true → Holds e
unfolding test
right (product k a b r) t = eqb-true _ _ t
right (quotient k a b r) t =
    let d = divided (arithmetic_of k) a b r t in
    quotient_is (arithmetic_of k) (lawful k) a b r d.divisor d.nonzero d.result d.back
right (inverse k a r) t =
    let both = and_parts _ _ t in
    let d = divided (arithmetic_of k) 1 a r both.1 in
    inverse_is (arithmetic_of k) (lawful k) a r d.divisor d.nonzero d.result (eqb-true _ _ both.0)
right (lays k words checks) t = same_words _ _ t
right (writes k words j new checks) t = right_writes (arithmetic_of k) (lawful k) (length words) (length checks) words j new checks t
right (reads k m words left j word c) t =
    let (passes, is) = and_parts _ _ t in
    λ table p h. right_tells (arithmetic_of k) (lawful k) (length words) m left j c passes words table p h ∙ ap holds (eqb-true _ _ is)
right (mends k m words left b word c) t = right_mends (arithmetic_of k) (lawful k) (length words) m words left b word c t
right (tells k n m left j c) t = right_tells (arithmetic_of k) (lawful k) n m left j c t
right (loses k n m left j z) t = right_loses (arithmetic_of k) (lawful k) n m left j z t
right (answers k m words left low bits cs) t = right_answers (arithmetic_of k) (lawful k) (length words) m words left low bits cs t

-- every example of the table passes
unfoldable pub passes : List Example → Bool
unfolding test
passes [] = true
passes (e ∷ es) = test e && passes es

-- so all of them hold, one after the other
pub all_right : (es : List Example) → passes es ≡ true → AllHold es
unfolding passes
all_right [] t = tt
all_right (e ∷ es) t = let both = and_parts _ _ t in (right e both.0, all_right es both.1)
