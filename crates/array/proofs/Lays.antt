-- A lay of an array: s is the table below before, t the table below after, ws the words of the data bays.
use Rattle.std.proofs.Common.{◌≡◌, ℕ, ◌+◌, ◌/◌, ◌%◌, ◌^◌, ◌<◌, ◌≢◌, ◌⊎◌, Bool, true, false, None, Ok, Err, List, get_or, Result, sym, refl, ap, ◌∙◌, subst, inl, inr, ⊎_elim, mod-lt, arith}
use Rattle.std.proofs.lemmas.Nat.{pow_pos, div-add-mod'}
use Rattle.std.specs.Prelude.{MatchBool}
use Rattle.std.proofs.lemmas.Bool.{cases_eq, cases_Bool, MatchBool-at_false}
use Rattle.std.proofs.lemmas.List.FromFn.{length-map-range_with_len, get_or-map-range_with_len}
use Rattle.field.specs.Arithmetic.{Arithmetic, Lawful}
use Rattle.plan.specs.Coefficients.{Coefficients, Fitting}
use Rattle.plan.specs.Rows.{row, dot, Vector, Tells}
use Rattle.plan.proofs.DataRows.{dot-data}
use Rattle.plan.proofs.Dots.{vector_codes, dot_below}
use Rattle.plan.proofs.Rows.{row-codes}
use Rattle.plan.proofs.Vectors.{plus, plus_vector, less, less_vector, dot-same, dot-equal}
use Rattle.shelf.specs.declared.refusal.Refusal.{Refusal}
use Rattle.shelf.specs.Table.{Table, Cell, blank, holds, Kept}
use Rattle.shelf.specs.Calls.{Outcome, bit, Set, Laid, LayAnswer, ThisPlace, refuses_lay}
use Rattle.shelf.proofs.Settling.{when_done, lay_there}
use Rattle.shelf.proofs.Words.{lay_fit, none_large}
use Rattle.shelf.proofs.Gathering.{bit_low}
use Rattle.linear.specs.Sets.{TellsJust}
use Rattle.array.specs.declared.coded.Array.{Array}
use Rattle.array.specs.Tables.{array_table, ArrayOrder, ArrayOutcome, Beneath, LayBits}
use Rattle.array.specs.Decoding.{Gives, Agrees, AllowsOne, decoded, InOrder}
use Rattle.array.specs.Changes.{row_words, LayBelow}
use Rattle.array.proofs.Adding.{gives_plus, zero_between}
use Rattle.array.proofs.Cells.{cases_cell, not_both, holds_all, blank_more}
use Rattle.array.proofs.Meaning.{running_from}
use Rattle.array.proofs.Promising.{array_after, promised, beneath}
use Rattle.array.proofs.Shapes.{Fits, fits_place, array_shape, array_limit}
use Rattle.array.proofs.Decays.{cells_still, order_still, array_decayed}

-- Where the filled cells of a place tell the row of a bay, they allow one word for it: the difference of two vectors that agree gives zero
-- on the filled rows.
module _ (k : Arithmetic) (l : Lawful k) (x : Coefficients) (fit : Fitting k x) (t : Table) (p r : ℕ) (v : List ℕ) (hv : Agrees k x t p v) (set : ℕ → Bool) (filled : (b : ℕ) → b < x.n + x.m → set b ≡ true → t.cell b p ≢ blank) where
  same : (b : ℕ) (u w : List ℕ) (c : Cell) → c ≢ blank → Gives k x b u c → Gives k x b w c → dot k (row x b) u ≡ dot k (row x b) w
  same b u w blank some gu gw = absurd (some refl)
  same b u w (holds n) some gu gw = sym gu ∙ gw

  pub told_one : Tells k x set r → AllowsOne k x t r p (dot k (row x r) v)
  told_one tells = ((v, hv, refl), λ w (u, hu, is). sym is ∙ dot-equal k l x.n u v hu.vector hv.vector (row x r) (row-codes k l x fit r) (zero_difference u hu))
    where
      zero_difference : (u : List ℕ) → Agrees k x t p u → dot k (row x r) (less k l x.n u v) ≡ 0
      zero_difference u hu =
          tells (less k l x.n u v) (less_vector k l x.n u v hu.vector hv.vector)
          (λ b few on. dot-same k l x.n u v hu.vector hv.vector (row x b) (row-codes k l x fit b) (same b u v (t.cell b p) (filled b few on) (hu.gives b few) (hv.gives b few)))

module _ (k : Arithmetic) (l : Lawful k) (x : Coefficients) (fit : Fitting k x) (t : Table) (p j : ℕ) (d : j < x.n) (v : List ℕ) (hv : Agrees k x t p v) where
  -- Where the filled cells of a place tell the row of a data bay, the cell of the bay is filled.
  told_filled : (set : ℕ → Bool) → ((b : ℕ) → b < x.n + x.m → set b ≡ true → t.cell b p ≢ blank) → Tells k x set j → (decoded k x t).cell j p ≢ blank
  told_filled set filled tells empty =
      let (a, b, some, other, differ) = blank_more k l x t p j d v hv empty in
      let one = told_one k l x fit t p j v hv set filled tells in
      differ (one.1 a some ∙ sym (one.1 b other))

  -- Where the cell is filled, any set with the filled cells tells the row: a vector that gives zero on them can be added.
  pub filled_told : (set : ℕ → Bool) → ((b : ℕ) → b < x.n + x.m → set b ≡ false → t.cell b p ≡ blank) → (w : ℕ) → (decoded k x t).cell j p ≡ holds w → Tells k x set j
  filled_told set clear w e z hz zeros =
      let sum_agrees : Agrees k x t p (plus k l x.n v z) = record {
        vector = plus_vector k l x.n v z hv.vector hz;
        gives = λ b few. gives_sum b few z hz (zero_or_blank b few z zeros) (t.cell b p) refl (hv.gives b few);
      } in
      let same = holds_all k l x t p j d w e v hv ∙ sym (holds_all k l x t p j d w e (plus k l x.n v z) sum_agrees) in
      zero_between k l x fit j v z hv.vector hz same
    where
      zero_or_blank : (b : ℕ) → b < x.n + x.m → (z : List ℕ) → ((b : ℕ) → b < x.n + x.m → set b ≡ true → dot k (row x b) z ≡ 0) → (dot k (row x b) z ≡ 0) ⊎ (t.cell b p ≡ blank)
      zero_or_blank b few z zeros = ⊎_elim (λ on. inl (zeros b few on)) (λ off. inr (clear b few off)) (cases_Bool (set b))

      gives_sum : (b : ℕ) → b < x.n + x.m → (z : List ℕ) → Vector k x.n z → (dot k (row x b) z ≡ 0) ⊎ (t.cell b p ≡ blank) → (c : Cell) → t.cell b p ≡ c → Gives k x b v c → Gives k x b (plus k l x.n v z) c
      gives_sum b few z hz known blank is gave = tt
      gives_sum b few z hz known (holds w) is gave =
          ⊎_elim (λ none. gives_plus k l x fit b v z hv.vector hz w gave none) (λ empty. absurd (not_both (t.cell b p) w empty is)) known

-- What a lay below did, seen from the array.
module _ (k : Arithmetic) (l : Lawful k) (x : Coefficients) (fit : Fitting k x) (s t : Table) (p : ℕ) (ws : List ℕ) (hw : Vector k x.n ws) (low bits : ℕ) (bays : s.bays ≡ x.n + x.m) (h : Laid p (row_words k x ws) s t low) (told : (j : ℕ) → j < x.n → MatchBool (bit bits j) (Tells k x (bit low) j) (Tells k x (bit low) j → ⊥)) (others : bits < 2 ^ x.n) where
  -- The words agree with the place:
  gives_set : (b w : ℕ) (c : Cell) → w ≡ dot k (row x b) ws → Set w c → Gives k x b ws c
  gives_set b w c is set = ⊎_elim (λ e. subst (Gives k x b ws) (sym e) is) (λ e. subst (Gives k x b ws) (sym e) tt) set

  words_agree : Agrees k x t p ws
  words_agree = record {
    vector = hw;
    gives = λ b few.
        gives_set b (get_or (row_words k x ws) b 0) (t.cell b p) (get_or-map-range_with_len (λ b. dot k (row x b) ws) 0 (x.n + x.m) b b 0 few (omega arith)) (h.set b (omega arith));
  }

  -- a cell of the array has its word or is blank,
  word_set : (j : ℕ) → j < x.n → Set (get_or ws j 0) ((decoded k x t).cell j p)
  word_set j d = elim (cases_cell ((decoded k x t).cell j p)) [
    | inl e ↦ inr e
    | inr (w, e) ↦ inl (e ∙ ap holds (sym (holds_all k l x t p j d w e ws words_agree) ∙ dot-data k l x j ws d hw))
  ]

  -- it is filled where its bay runs, since running bays below have filled cells,
  running_filled : (j : ℕ) → j < x.n → (decoded k x t).running j ≡ true → (decoded k x t).cell j p ≢ blank
  running_filled j d on = told_filled k l x fit t p j d ws words_agree t.running (λ b few runs. h.filled b (omega arith) runs) (running_from k l x t j on)

  -- and it is blank where its bit is clear, since the bays with bits set below would tell its row.
  clear_blank : (j : ℕ) → j < x.n → bit bits j ≡ false → (decoded k x t).cell j p ≡ blank
  clear_blank j d off = elim (cases_cell ((decoded k x t).cell j p)) [
    | inl e ↦ e
    | inr (w, e) ↦
        absurd (MatchBool-at_false _ _ off (told j d) (filled_told k l x fit t p j d ws words_agree (bit low) (λ b few clear. h.clear b (omega arith) clear) w e))
  ]

  module _ (own : (decoded k x s).bays ≡ x.n) (ordered : InOrder k x s) where
    other_places : (j p' : ℕ) → j < (decoded k x s).bays → p' < (decoded k x s).places → (ThisPlace p j p' → ⊥) → Kept ((decoded k x s).cell j p') ((decoded k x t).cell j p')
    other_places j p' d there out = cells_still k l x (ThisPlace p) (ThisPlace p) s t h.rest ordered j p' d there (λ b e. out e)

    order_after : InOrder k x t
    order_after p' there = elim (cases_eq p' p) [
      | inl same ↦ subst (λ p. (v : List ℕ) × Agrees k x t p v) (sym same) (ws, words_agree)
      | inr away ↦ order_still k l x (ThisPlace p) (ThisPlace p) s t h.rest ordered p' (let e = (array_shape k x s t h.rest.shape).places in omega arith) (λ b e. away e)
    ]

    pub lays : InOrder k x t × Laid p ws (decoded k x s) (decoded k x t) bits
    lays = (
      order_after,
      record {
        rest = array_decayed k l x (ThisPlace p) (ThisPlace p) s t h.rest other_places;
        set = λ j d. word_set j (omega (arith, own));
        filled = λ j d on. running_filled j (omega (arith, own)) on;
        clear = λ j d off. clear_blank j (omega (arith, own)) off;
        others = subst (λ n. bits < 2 ^ n) (sym own) others;
      },
    )

module _ {S P : Type 0} (table : S → Table) (sound : S → Type 0) (k : Arithmetic) (l : Lawful k) (coefficients : P → Coefficients) (before : Array S P) (fit : Fitting k (coefficients before.plan)) (p : ℕ) (ws : List ℕ) (none : refuses_lay p ws (array_table table k coefficients before) ≡ None) where
  abbrev x : Coefficients
  x = coefficients before.plan

  abbrev s : Table
  s = table before.below

  -- What is known of a lay that is not refused: its words are a data vector,
  pub words_vector : Vector k x.n ws
  words_vector =
      let h = lay_fit _ _ _ p ws none in
      let f = fits_place k x s p h.room in
      record {
        long = h.count ∙ f.own_bays;
        below = λ j d. subst (λ n. get_or ws j 0 < n) (array_limit k x s) (h.low j (let e = h.count in let i = f.own_bays in omega arith));
      }

  fit_here : Fits k x s
  fit_here = fits_place k x s p (lay_fit _ _ _ p ws none).room

  -- and the lay below is not refused either.
  below_none : refuses_lay p (row_words k x ws) s ≡ None
  below_none =
      let here = (lay_fit _ _ _ p ws none).room in
      let f = fit_here in
      let long = length-map-range_with_len (λ b. dot k (row x b) ws) 0 (x.n + x.m) in
      lay_there p (row_words k x ws) s (let e = f.own_places in omega arith) (long ∙ sym f.bays)
      (none_large s.limit (row_words k x ws) (λ b d.
      let is = get_or-map-range_with_len (λ b. dot k (row x b) ws) 0 (x.n + x.m) b b 0 (omega arith) (omega arith) in
      let code = dot_below k l (row x b) ws (row-codes k l x fit b) (vector_codes k l x.n ws words_vector) in
      let high = f.limit in
      omega arith))

  module _ (below : S) where
    abbrev then : Array S P
    then = array_after table sound k coefficients before (refuses_lay p ws) none below

    -- what the lay below promises
    module _ (r : Result ℕ Refusal) (lay : Outcome table sound before.below below (refuses_lay p (row_words k x ws)) (LayAnswer p (row_words k x ws)) r) where
      laid_so : ArrayOrder table sound k coefficients before → sound below × LayAnswer p (row_words k x ws) s (table below) r
      laid_so ordered =
          when_done s (table below) (sound before.below) (sound below) (refuses_lay p (row_words k x ws) s) (LayAnswer p (row_words k x ws)) r below_none lay ordered.0

    -- it is never refused
    pub refused_promised : (e : Refusal) → Outcome table sound before.below below (refuses_lay p (row_words k x ws)) (LayAnswer p (row_words k x ws)) (Err e) → (r : Result ℕ Refusal) → ArrayOutcome table sound k coefficients before then (refuses_lay p ws) (LayAnswer p ws) r
    refused_promised e lay r =
        promised table sound k coefficients before (refuses_lay p ws) none below (LayAnswer p ws) r lay.0 (λ ordered. (laid_so (Err e) lay ordered).0) (λ ordered. absurd (laid_so (Err e) lay ordered).1)

    pub refused_below : (e : Refusal) → Outcome table sound before.below below (refuses_lay p (row_words k x ws)) (LayAnswer p (row_words k x ws)) (Err e) → (r : Result ℕ Refusal) → Beneath table sound k coefficients before then (refuses_lay p ws) (LayBelow p ws r)
    refused_below e lay r = beneath table sound k coefficients before (refuses_lay p ws) none below (LayBelow p ws r) (λ ordered. absurd (laid_so (Err e) lay ordered).1)

    -- the bits of the data bays that are told
    module _ (low all bits : ℕ) (lay : Outcome table sound before.below below (refuses_lay p (row_words k x ws)) (LayAnswer p (row_words k x ws)) (Ok low)) (told : TellsJust k x (bit low) all) (is : bits ≡ all % 2 ^ x.n) where
      few_bits : bits < 2 ^ x.n
      few_bits = subst (λ n. n < 2 ^ x.n) (sym is) (mod-lt all (pow_pos x.n))

      same_bit : (j : ℕ) → j < x.n → bit bits j ≡ bit all j
      same_bit j d =
          ap (λ n. bit n j) is ∙ sym (bit_low (all / 2 ^ x.n) x.n (all % 2 ^ x.n) j d)
          ∙ ap (λ n. bit n j) (div-add-mod' all (2 ^ x.n))

      data_told : (j : ℕ) → j < x.n → MatchBool (bit bits j) (Tells k x (bit low) j) (Tells k x (bit low) j → ⊥)
      data_told j d = subst (λ b. MatchBool b (Tells k x (bit low) j) (Tells k x (bit low) j → ⊥)) (sym (same_bit j d)) (told j (omega arith))

      pub lay_promised : ArrayOutcome table sound k coefficients before then (refuses_lay p ws) (LayAnswer p ws) (Ok bits)
      lay_promised =
          promised table sound k coefficients before (refuses_lay p ws) none below (LayAnswer p ws) (Ok bits) lay.0
          (λ ordered. (laid_so (Ok low) lay ordered).0)
          (λ ordered. lays k l x fit s (table below) p ws words_vector low bits fit_here.bays (laid_so (Ok low) lay ordered).1 data_told few_bits fit_here.own_bays ordered.1)

      pub lay_below : Beneath table sound k coefficients before then (refuses_lay p ws) (LayBelow p ws (Ok bits))
      lay_below =
          beneath table sound k coefficients before (refuses_lay p ws) none below (LayBelow p ws (Ok bits))
          (λ ordered. record { low = low; laid = (laid_so (Ok low) lay ordered).1; told = data_told; others = few_bits })

      -- of which B tells below
      pub lay_told : (B : S → S → ℕ → List ℕ → Result ℕ Refusal → Type 0) → B before.below below p (row_words k x ws) (Ok low) → LayBits table sound B k coefficients before then p ws (Ok bits)
      lay_told B told_below = (low, lay, told_below, data_told, few_bits)
