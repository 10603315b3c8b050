-- The opening of an array, place after place.
use Rattle.std.proofs.Common.{◌≡◌, ℕ, ◌+◌, ◌<◌, ◌≤◌, ◌≢◌, Bool, true, false, true≢false, List, length, get_or, set, replicate, Ok, Err, Result, sym, refl, ◌∙◌, subst, inl, inr, arith}
use Rattle.std.specs.Bool.{MatchBool}
use Rattle.std.proofs.Math.Bool.{beq}
use Rattle.std.specs.Result.{result_eq}
use Rattle.std.proofs.lemmas.Bool.{cases_eq, cases_lt, lt-leb}
use Rattle.std.proofs.lemmas.List.{get_or-replicate, get_or_past, get_or-set_same, get_or-set_other, length-set, length-replicate}
use Rattle.field.specs.Arithmetic.{Arithmetic, Lawful}
use Rattle.plan.specs.Coefficients.{Coefficients}
use Rattle.shelf.specs.declared.refusal.Refusal.{Refusal}
use Rattle.shelf.specs.Table.{Table, SameShape}
use Rattle.shelf.specs.Calls.{Outcome, NoCell, ThisPlace, Cleared, Clears}
use Rattle.shelf.proofs.Settling.{same_shape, shape_trans, decayed_more, decayed_trans, kept_trans, blank_stays, when_done}
use Rattle.array.specs.Decoding.{decoded, InOrder}
use Rattle.array.proofs.Decay.{KeptPlace, agrees_still}
use Rattle.array.proofs.Meaning.{place_agreed}
use Rattle.array.proofs.Shapes.{fits_place, array_shape}
use Rattle.opening.specs.Agreement.{Agreed, refuses_test, Tested}
use Rattle.opening.specs.Opening.{Torn, KeptCells, PlaceOpened, OpensPlace, PlacesOpened, Opens}
use Rattle.opening.specs.declared.opened.Opened.{Opened}

module _ (k : Arithmetic) (l : Lawful k) (x : Coefficients) (p : ℕ) where
  -- What the answer of a test says where it is no, and where it is not.
  no_agreed : (same : Refusal → Refusal → Bool) (s t : Table) (r : Result Bool Refusal) → Tested k x p s t r → result_eq beq same r (Ok false) ≡ true → Agreed k x s p → ⊥
  no_agreed same s t (Ok true) h is = absurd (true≢false (sym is))
  no_agreed same s t (Ok false) h is = h.answer
  no_agreed same s t (Err e) h is = absurd h.answer

  yes_agreed : (same : Refusal → Refusal → Bool) (s t : Table) (r : Result Bool Refusal) → Tested k x p s t r → result_eq beq same r (Ok false) ≡ false → Agreed k x t p
  yes_agreed same s t (Ok true) h is = h.answer
  yes_agreed same s t (Ok false) h is = absurd (true≢false is)
  yes_agreed same s t (Err e) h is = absurd h.answer

  module _ (s t : Table) (there : p < s.places) (r : Result Bool Refusal) (h : Tested k x p s t r) where
    -- A place that no vector agreed with is torn once it is cleared,
    torn_opened : (u : Table) → Cleared p t u → (Agreed k x s p → ⊥) → PlaceOpened k x p s u true
    torn_opened u cleared none = record {
      rest = decayed_trans (ThisPlace p) s t u (decayed_more NoCell (ThisPlace p) s t (λ b p z. absurd z) h.rest) cleared.rest;
      place = record {
        none = none;
        gone = λ b d. cleared.gone b (let e = h.rest.shape.bays in omega arith) (let e = h.rest.shape.places in omega arith);
      };
    }

    -- and any other is kept.
    kept_opened : Agreed k x t p → PlaceOpened k x p s t false
    kept_opened agreed = record {
      rest = decayed_more NoCell (ThisPlace p) s t (λ b p z. absurd z) h.rest;
      place = (λ b d. h.rest.cells b p d there (λ z. z), agreed);
    }

module _ {Self : Type 0} (table : Self → Table) (sound : Self → Type 0) (k : Arithmetic) (l : Lawful k) (x : Coefficients) (p : ℕ) (s t : Self) (r : Result Bool Refusal) (same : Refusal → Refusal → Bool) (torn : Bool) (test : Outcome table sound s t (refuses_test k x p) (Tested k x p) r) (is : torn ≡ result_eq beq same r (Ok false)) where
  -- what the test says of a place of the array
  tested : sound s → p < (decoded k x (table s)).places → sound t × Tested k x p (table s) (table t) r
  tested ordered low =
      when_done (table s) (table t) (sound s) (sound t) (refuses_test k x p (table s)) (Tested k x p) r
      (let e = lt-leb (decoded k x (table s)).places p low in simp e) test ordered

  in_places : p < (decoded k x (table s)).places → p < (table s).places
  in_places low = let e = (fits_place k x (table s) p low).own_places in omega arith

  pub opens_torn : torn ≡ true → (u : Self) → Clears table sound p t u → OpensPlace table sound k x p s u torn
  opens_torn is_torn u clear = (
    shape_trans (table s) (table t) (table u) test.0 clear.0,
    λ ordered low.
        let (mid, h) = tested ordered low in
        let (after, cleared) = clear.1 mid in (
          after,
          subst (PlaceOpened k x p (table s) (table u)) (sym is_torn)
              (torn_opened k l x p (table s) (table t) (in_places low) r h (table u) cleared (no_agreed k l x p same (table s) (table t) r h (sym is ∙ is_torn))),
        ),
  )

  pub opens_kept : torn ≡ false → OpensPlace table sound k x p s t torn
  opens_kept is_kept = (
    test.0,
    λ ordered low.
        let (after, h) = tested ordered low in (
          after,
          subst (PlaceOpened k x p (table s) (table t)) (sym is_kept)
              (kept_opened k l x p (table s) (table t) (in_places low) r h (yes_agreed k l x p same (table s) (table t) r h (sym is ∙ is_kept))),
        ),
  )

-- How far the opening has come: the places below n are opened, and no other is marked. s is the table below before, t the table below
-- now.
pub record Opening (k : Arithmetic) (x : Coefficients) (s t : Table) (torn : List Bool) (n : ℕ) : Type 0 where
  pub opened : PlacesOpened k x s t torn
  pub agreed : (p : ℕ) → p < n → p < (decoded k x s).places → Agreed k x t p
  pub ahead : (p : ℕ) → n ≤ p → get_or torn p false ≡ false

-- no mark is set at first
none_marked : (n p : ℕ) → get_or (replicate n false) p false ≡ false
none_marked n p = elim (cases_lt p n) [
  | inl d ↦ get_or-replicate n p false false d
  | inr d ↦ get_or_past (replicate n false) p false (let long = length-replicate n false in omega arith)
]

module _ (k : Arithmetic) (l : Lawful k) (x : Coefficients) where
  begun : (s : Table) (n : ℕ) → Opening k x s s (replicate n false) 0
  begun s n = record {
    opened = record {
      places = λ p d. subst (λ torn. MatchBool torn (Torn k x p s s) (KeptCells p s s)) (sym (none_marked n p)) (λ b d. inl refl);
      stops = λ b d on. on;
    };
    agreed = λ p d low. absurd (let z : ⊥ = omega arith in z);
    ahead = λ p d. none_marked n p;
  }

  module _ (s t u : Table) (same : SameShape s t) (torn : List Bool) (n : ℕ) (h : Opening k x s t torn n) (r : Bool) (step : PlaceOpened k x n t u r) (room : n < length torn) (low : n < (decoded k x s).places) where
    within : n < s.places
    within = let e = (fits_place k x s n low).own_places in omega arith

    -- the cells of the next place were kept so far
    kept_here : KeptCells n s t
    kept_here = subst (λ torn. MatchBool torn (Torn k x n s t) (KeptCells n s t)) (h.ahead n (omega arith)) (h.opened.places n within)

    kept_place : KeptPlace k x s t n
    kept_place b d = kept_here b (let e = (fits_place k x s n low).bays in omega arith)

    here : (r : Bool) → MatchBool r (Torn k x n t u) (KeptCells n t u × Agreed k x u n) → MatchBool r (Torn k x n s u) (KeptCells n s u)
    here true now = record {
      none = λ (v, hv). now.none (v, agrees_still k x s t n kept_place v hv);
      gone = λ b d. now.gone b (let e = same.bays in omega arith);
    }
    here false (kept, agreed) = λ b d. kept_trans (s.cell b n) (t.cell b n) (u.cell b n) (kept_here b d) (kept b (let e = same.bays in omega arith))

    -- the cells of any other place are kept by the step
    kept_else : (p : ℕ) → p ≢ n → p < s.places → KeptCells p t u
    kept_else p away there b d = step.rest.cells b p d (let e = same.places in omega arith) away

    else_where : (p : ℕ) → p ≢ n → p < s.places → (mark : Bool) → MatchBool mark (Torn k x p s t) (KeptCells p s t) → MatchBool mark (Torn k x p s u) (KeptCells p s u)
    else_where p away there true was = record {
      none = was.none;
      gone = λ b d. blank_stays (t.cell b p) (u.cell b p) (was.gone b d) (kept_else p away there b (let e = same.bays in omega arith));
    }
    else_where p away there false kept = λ b d. kept_trans (s.cell b p) (t.cell b p) (u.cell b p) (kept b d) (kept_else p away there b (let e = same.bays in omega arith))

    -- A vector agrees with the next place: any, where it is torn.
    agreed_here : (r : Bool) → MatchBool r (Torn k x n t u) (KeptCells n t u × Agreed k x u n) → Agreed k x u n
    agreed_here true now =
        let all = shape_trans s t u same step.rest.shape in
        place_agreed k l x u n (let e = (array_shape k x s u all).places in omega arith)
        (λ b d. now.gone b (let e = step.rest.shape.bays in omega arith))
    agreed_here false (kept, agreed) = agreed

    agreed_else : (p : ℕ) → p ≢ n → p < (decoded k x s).places → Agreed k x t p → Agreed k x u p
    agreed_else p away there (v, hv) =
        let f = fits_place k x s p there in
        (v, agrees_still k x t u p (λ b d. kept_else p away (let e = f.own_places in omega arith) b (let e = same.bays in let i = f.bays in omega arith)) v hv)

    next : Opening k x s u (set torn n r) (n + 1)
    next = record {
      opened = record {
        places = λ p d. elim (cases_eq p n) [
          | inl at ↦
              subst (λ p. MatchBool (get_or (set torn n r) p false) (Torn k x p s u) (KeptCells p s u)) (sym at)
              (subst (λ mark. MatchBool mark (Torn k x n s u) (KeptCells n s u)) (sym (get_or-set_same torn n r false room)) (here r step.place))
          | inr away ↦
              subst (λ mark. MatchBool mark (Torn k x p s u) (KeptCells p s u)) (sym (get_or-set_other torn n p r false away))
              (else_where p away d (get_or torn p false) (h.opened.places p d))
        ];
        stops = λ b d on. h.opened.stops b d (step.rest.stops b (let e = same.bays in omega arith) on);
      };
      agreed = λ p d there. elim (cases_eq p n) [
        | inl at ↦ subst (Agreed k x u) (sym at) (agreed_here r step.place)
        | inr away ↦ agreed_else p away there (h.agreed p (omega arith) there)
      ];
      ahead = λ p d.
          let away : p ≢ n = omega arith in
          get_or-set_other torn n p r false away ∙ h.ahead p (omega arith);
    }

-- The same between two states of the shelf below, in order or not.
abbrev pub Going : {Self : Type 0} → (Self → Table) → (Self → Type 0) → Arithmetic → Coefficients → ℕ → Self → Self → List Bool → ℕ → Type 0
Going table sound k x places first now torn n =
    SameShape (table first) (table now) × (length torn ≡ places) × (sound first → sound now × Opening k x (table first) (table now) torn n)

module _ {Self : Type 0} (table : Self → Table) (sound : Self → Type 0) (k : Arithmetic) (l : Lawful k) (x : Coefficients) (places : ℕ) (first : Self) where
  pub going_begun : (torn : List Bool) → torn ≡ replicate places false → Going table sound k x places first first torn 0
  going_begun torn is =
      subst (λ torn. Going table sound k x places first first torn 0) (sym is) (
        same_shape (table first),
        length-replicate places false,
        λ ordered. (ordered, begun k l x (table first) places),
      )

  module _ (all : places ≡ (decoded k x (table first)).places) (now : Self) (torn : List Bool) (n : ℕ) (h : Going table sound k x places first now torn n) where
    pub going_next : n < places → (later : Self) (r : Bool) → OpensPlace table sound k x n now later r → Going table sound k x places first later (set torn n r) (n + 1)
    going_next room later r step = (
      shape_trans (table first) (table now) (table later) h.0 step.0,
      length-set torn n r ∙ h.1,
      λ ordered.
          let low : n < (decoded k x (table first)).places = omega arith in
          let (mid, so_far) = h.2 ordered in
          let (after, opened) = step.1 mid (let e = (array_shape k x (table first) (table now) h.0).places in omega arith) in
          (after, next k l x (table first) (table now) (table later) h.0 torn n so_far r opened (let long = h.1 in omega arith) low),
    )

    -- At the end some vector agrees with each place.
    pub going_done : places ≤ n → sound first → (sound now × InOrder k x (table now)) × PlacesOpened k x (table first) (table now) torn
    going_done end ordered =
        let (after, so_far) = h.2 ordered in
        let same = (array_shape k x (table first) (table now) h.0).places in
        ((after, λ p there. so_far.agreed p (omega arith) (omega arith)), so_far.opened)

-- So the array is opened.
pub all_opened : {S P : Type 0} (table : S → Table) (sound : S → Type 0) (k : Arithmetic) (l : Lawful k) (coefficients : P → Coefficients) (first : S) (plan : P) (o : Opened S P) (places n : ℕ)
    → o.array.plan ≡ plan → places ≡ (decoded k (coefficients plan) (table first)).places → Going table sound k (coefficients plan) places first o.array.below o.torn.items n → places ≤ n
    → Opens table sound k coefficients first plan o
all_opened table sound k l coefficients first plan o places n same all h end = (
  same,
  h.0,
  h.1 ∙ all,
  λ ordered.
      let (order, opened) = going_done table sound k l (coefficients plan) places first all o.array.below o.torn.items n h end ordered in
      ((order.0, subst (λ p. InOrder k (coefficients p) (table o.array.below)) (sym same) order.1), opened),
)
