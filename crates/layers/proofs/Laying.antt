-- A lay on a pair: each of the two lays its part of the words, and their bits are joined.
use Rattle.std.proofs.Common.{◌≡◌, ℕ, ◌+◌, ◌-◌, ◌*◌, ◌%◌, ◌^◌, ◌<◌, ◌≤◌, true, false, ◌||◌, leb, List, [], ◌∷◌, ◌++◌, length, get_or, take, drop, None, Ok, Err, Result, sym, refl, ap, ◌∙◌, subst, ⊎_elim, arith}
use lib.Bits.{bit_or}
use Rattle.std.proofs.lemmas.Bool.{cases_lt, or_parts}
use Rattle.std.proofs.lemmas.List.{take-append-drop, take_rest, length-take-le, length-drop, get_or-take, get_or-drop}
use Rattle.std.proofs.lemmas.Nat.{pow-add, shl_whole, or_shifted, mul-add-lt}
use Rattle.shelf.specs.declared.refusal.Refusal.{Refusal}
use Rattle.shelf.specs.declared.shape.Shape.{Shape}
use Rattle.shelf.specs.Refusals.{too_large, lay_refusal}
use Rattle.shelf.specs.Table.{Table, Cell, Shaped, SameShape, Decayed, Kept}
use Rattle.shelf.specs.Calls.{Outcome, Settled, refuses_lay, LayAnswer, Laid, Set, ThisPlace}
use Rattle.shelf.proofs.Gathering.{bit_low, bit_high}
use Rattle.shelf.proofs.Settling.{lay_there, tested_lay, done, when_done}
use Rattle.shelf.proofs.Words.{Fit, lay_fit}
use Rattle.layers.specs.Pairs.{fits, paired}
use Rattle.layers.proofs.Beside.{fit_table, fit_by_place, fits_few, fits_places, fits_limit, cell_first, cell_second, running_first, running_second, pair_shape}

-- the joined bits

-- shifted by k and joined, two numbers are their sum, since the lower has no bit from k on
pub joined : (high k low m : ℕ) → low < 2 ^ k → high < 2 ^ m → k + m ≤ 32 → bit_or ((high * 2 ^ k) % 4294967296) low ≡ high * 2 ^ k + low
joined high k low m h i j = ap (λ n. bit_or n low) (shl_whole high m k 32 i (omega arith)) ∙ or_shifted high k low h

-- the joined number has as many bits as the two together
pub joined_below : (high k low m : ℕ) → low < 2 ^ k → high < 2 ^ m → high * 2 ^ k + low < 2 ^ (k + m)
joined_below high k low m h i = subst (λ n. high * 2 ^ k + low < n) (sym (pow-add 2 k m)) (mul-add-lt high (2 ^ k) low (2 ^ m) i h)

-- the words

-- a word of the whole is too large just where one of either part is
pub too_large-append : (limit : ℕ) (xs ys : List ℕ) → too_large limit (xs ++ ys) ≡ (too_large limit xs || too_large limit ys)
too_large-append limit [] ys = refl
too_large-append limit (x ∷ xs) ys =
    elim (leb limit x) as (λ t. (t || too_large limit (xs ++ ys)) ≡ ((t || too_large limit xs) || too_large limit ys)) [ true ↦ refl | false ↦ too_large-append limit xs ys ]

-- What a lay on a pair knows once the tests let it through: the two go together, and the bays of the first cut the words.
pub record Cut (s t : Table) (p : ℕ) (ws : List ℕ) (cut : ℕ) : Type 0 where
  pub none : refuses_lay p ws (paired s t) ≡ None
  pub fit : fits s t ≡ true
  pub at : cut ≡ s.bays
  pub within : cut ≤ length ws

-- the tests of the pair's shape, and the shape of the first
pub cut_by : (s t : Table) (n : ℕ × ℕ × ℕ) (shape : Shape) → Shaped (paired s t) n → (shape.bays ≡ n.0) × (shape.places ≡ n.1) × (shape.limit ≡ n.2) → (cut : ℕ) → cut ≡ s.bays → (p : ℕ) (ws : List ℕ) → lay_refusal shape.bays shape.places shape.limit p ws ≡ None → Cut s t p ws cut
cut_by s t n shape is from cut at p ws e =
    let none = tested_lay (paired s t) n shape is from p ws e in
    let h = lay_fit (paired s t).bays (paired s t).places (paired s t).limit p ws none in
    let fit = fit_by_place s t p h.room in
    let all = ap (λ (u : Table). u.bays) (fit_table s t fit) in
    record { none = none; fit = fit; at = at; within = omega (arith, h.count, all, at) }

-- what holds of the words that each shelf is lent, the first those of its bays and the second the rest, as the code cuts them
module _ (Q : List ℕ → Type 0) (ws : List ℕ) (cut k : ℕ) (at : cut ≡ k) where
  pub of_first : Q (take cut ws) → Q (take k ws)
  of_first h = subst (λ n. Q (take n ws)) at h

  pub of_second : Q (take (length ws - cut) (drop cut ws)) → Q (drop k ws)
  of_second h = subst Q (take_rest ws cut ∙ ap (λ n. drop n ws) at) h

-- what a cell keeps, under equal cells
kept_as : (x x' y y' : Cell) → x' ≡ x → y' ≡ y → Kept x y → Kept x' y'
kept_as x x' y y' e f h = subst (λ (a : Cell). Kept a y') (sym e) (subst (Kept x) (sym f) h)

module _ (s s' t t' : Table) (fit : fits s t ≡ true) (hs : SameShape s s') (ht : SameShape t t') where
  -- the bays and places of two that go together
  all : (paired s t).bays ≡ s.bays + t.bays
  all = ap (λ (u : Table). u.bays) (fit_table s t fit)

  places : (paired s t).places ≡ s.places
  places = ap (λ (u : Table). u.places) (fit_table s t fit)

  -- the cells and running bays of the pair after the call, by those of its shelves
  after_first : (b p : ℕ) → b < s.bays → (paired s' t').cell b p ≡ s'.cell b p
  after_first b p h = cell_first s' t' b p (omega (arith, hs.bays))

  after_second : (b p : ℕ) → s.bays ≤ b → (paired s' t').cell b p ≡ t'.cell (b - s.bays) p
  after_second b p h = cell_second s' t' b p (omega (arith, hs.bays)) ∙ ap (λ n. t'.cell (b - n) p) hs.bays

  runs_first : (b : ℕ) → b < s.bays → (paired s' t').running b ≡ s'.running b
  runs_first b h = running_first s' t' b (omega (arith, hs.bays))

  runs_second : (b : ℕ) → s.bays ≤ b → (paired s' t').running b ≡ t'.running (b - s.bays)
  runs_second b h = running_second s' t' b (omega (arith, hs.bays)) ∙ ap (λ n. t'.running (b - n)) hs.bays

  -- where both decay the pair does, bay by bay
  pub both_decayed : (p : ℕ) → Decayed (ThisPlace p) s s' → Decayed (ThisPlace p) t t' → Decayed (ThisPlace p) (paired s t) (paired s' t')
  both_decayed p h k = record {
    shape = pair_shape s s' t t' hs ht;
    stops = λ b i e. ⊎_elim
        (λ l. running_first s t b l ∙ h.stops b l (sym (runs_first b l) ∙ e))
        (λ l. running_second s t b l ∙ k.stops (b - s.bays) (omega (arith, all)) (sym (runs_second b l) ∙ e))
        (cases_lt b s.bays);
    cells = λ b q i j out. ⊎_elim
        (λ l. kept_as (s.cell b q) _ (s'.cell b q) _ (cell_first s t b q l) (after_first b q l) (h.cells b q l (omega (arith, places)) out))
        (λ l. kept_as (t.cell (b - s.bays) q) _ (t'.cell (b - s.bays) q) _ (cell_second s t b q l) (after_second b q l) (k.cells (b - s.bays) q (omega (arith, all)) (omega (arith, places, fits_places s t fit)) out))
        (cases_lt b s.bays);
  }

  module _ (ws : List ℕ) (p : ℕ) (none : refuses_lay p ws (paired s t) ≡ None) where
    -- the tests that the lay passed
    tests : Fit (paired s t).bays (paired s t).places (paired s t).limit p ws
    tests = lay_fit (paired s t).bays (paired s t).places (paired s t).limit p ws none

    -- each shelf is lent as many words as it has bays
    first_long : length (take s.bays ws) ≡ s.bays
    first_long = length-take-le s.bays ws (omega (arith, all, tests.count))

    second_long : length (drop s.bays ws) ≡ t.bays
    second_long = length-drop s.bays ws ∙ omega (arith, all, tests.count)

    -- and each word is the one of its bay
    word_first : (b : ℕ) → b < s.bays → get_or (take s.bays ws) b 0 ≡ get_or ws b 0
    word_first b h = get_or-take s.bays ws b 0 h

    word_second : (b : ℕ) → s.bays ≤ b → get_or (drop s.bays ws) (b - s.bays) 0 ≡ get_or ws b 0
    word_second b h = let e : s.bays + (b - s.bays) ≡ b = omega arith in get_or-drop s.bays ws (b - s.bays) 0 ∙ ap (λ n. get_or ws n 0) e

    -- what the two laid is laid, with their bits joined
    pub both-laid : (low high : ℕ) → Laid p (take s.bays ws) s s' low → Laid p (drop s.bays ws) t t' high → Laid p ws (paired s t) (paired s' t') (high * 2 ^ s.bays + low)
    both-laid low high h k = record {
      rest = both_decayed p h.rest k.rest;
      set = λ b i. ⊎_elim
          (λ l. subst (Set (get_or ws b 0)) (sym (after_first b p l)) (subst (λ w. Set w (s'.cell b p)) (word_first b l) (h.set b l)))
          (λ l. subst (Set (get_or ws b 0)) (sym (after_second b p l)) (subst (λ w. Set w (t'.cell (b - s.bays) p)) (word_second b l) (k.set (b - s.bays) (omega (arith, all)))))
          (cases_lt b s.bays);
      filled = λ b i run e. ⊎_elim
          (λ l. h.filled b l (sym (runs_first b l) ∙ run) (sym (after_first b p l) ∙ e))
          (λ l. k.filled (b - s.bays) (omega (arith, all)) (sym (runs_second b l) ∙ run) (sym (after_second b p l) ∙ e))
          (cases_lt b s.bays);
      clear = λ b i e. ⊎_elim
          (λ l. after_first b p l ∙ h.clear b l (sym (bit_low high s.bays low b l) ∙ e))
          (λ l. after_second b p l ∙ k.clear (b - s.bays) (omega (arith, all)) (sym (bit_high high s.bays low b h.others l) ∙ e))
          (cases_lt b s.bays);
      others = subst (λ n. high * 2 ^ s.bays + low < 2 ^ n) (sym all) (joined_below high s.bays low t.bays h.others k.others);
    }

    -- no word is too large for either
    none_large : (too_large s.limit (take s.bays ws) ≡ false) × (too_large s.limit (drop s.bays ws) ≡ false)
    none_large =
        or_parts (too_large s.limit (take s.bays ws)) (too_large s.limit (drop s.bays ws))
        (sym (too_large-append s.limit (take s.bays ws) (drop s.bays ws))
        ∙ (ap (too_large s.limit) (take-append-drop s.bays ws) ∙ (ap (λ n. too_large n ws) (sym (ap (λ (u : Table). u.limit) (fit_table s t fit))) ∙ tests.small)))

    -- so neither refuses its part of the lay
    first_there : refuses_lay p (take s.bays ws) s ≡ None
    first_there = lay_there p (take s.bays ws) s (omega (arith, places, tests.room)) first_long none_large.0

    second_there : refuses_lay p (drop s.bays ws) t ≡ None
    second_there =
        lay_there p (drop s.bays ws) t (omega (arith, places, fits_places s t fit, tests.room)) second_long
        (ap (λ n. too_large n (drop s.bays ws)) (sym (fits_limit s t fit)) ∙ none_large.1)

    module _ (P P' Q Q' : Type 0) where
      -- both answered their bits
      module _ (cut low high : ℕ) (at : cut ≡ s.bays)
          (h : SameShape s s' × Settled s s' P P' (refuses_lay p (take s.bays ws) s) (LayAnswer p (take s.bays ws)) (Ok low))
          (k : SameShape t t' × Settled t t' Q Q' (refuses_lay p (drop s.bays ws) t) (LayAnswer p (drop s.bays ws)) (Ok high)) where
        first_laid : P → P' × Laid p (take s.bays ws) s s' low
        first_laid x = when_done s s' P P' (refuses_lay p (take s.bays ws) s) (LayAnswer p (take s.bays ws)) (Ok low) first_there h x

        second_laid : Q → Q' × Laid p (drop s.bays ws) t t' high
        second_laid y = when_done t t' Q Q' (refuses_lay p (drop s.bays ws) t) (LayAnswer p (drop s.bays ws)) (Ok high) second_there k y

        pub lay_bits : P × Q → bit_or ((high * 2 ^ cut) % 4294967296) low ≡ high * 2 ^ s.bays + low
        lay_bits x =
            ap (λ n. bit_or ((high * 2 ^ n) % 4294967296) low) at
            ∙ joined high s.bays low t.bays (first_laid x.0).1.others (second_laid x.1).1.others (omega (arith, fits_few s t fit))

        pub lay_both : SameShape (paired s t) (paired s' t') × Settled (paired s t) (paired s' t') (P × Q) (P' × Q') (refuses_lay p ws (paired s t)) (LayAnswer p ws) (Ok (bit_or ((high * 2 ^ cut) % 4294967296) low))
        lay_both =
            done _ _ _ _ _ _ _ none (pair_shape s s' t t' hs ht)
            (λ x.
            let i = first_laid x.0 in
            let j = second_laid x.1 in
            ((i.0, j.0), subst (Laid p ws (paired s t) (paired s' t')) (sym (lay_bits x)) (both-laid low high i.1 j.1)))

      -- a shelf in order does not refuse its part, so these can't come from one
      pub lay_first_fails : (e : Refusal) → SameShape s s' × Settled s s' P P' (refuses_lay p (take s.bays ws) s) (LayAnswer p (take s.bays ws)) (Err e) → SameShape (paired s t) (paired s' t') × Settled (paired s t) (paired s' t') (P × Q) (P' × Q') (refuses_lay p ws (paired s t)) (LayAnswer p ws) (Err e)
      lay_first_fails e h =
          done _ _ _ _ _ _ _ none (pair_shape s s' t t' hs ht) (λ x. absurd (when_done s s' P P' (refuses_lay p (take s.bays ws) s) (LayAnswer p (take s.bays ws)) (Err e) first_there h x.0).1)

      pub lay_second_fails : (e : Refusal) → SameShape t t' × Settled t t' Q Q' (refuses_lay p (drop s.bays ws) t) (LayAnswer p (drop s.bays ws)) (Err e) → SameShape (paired s t) (paired s' t') × Settled (paired s t) (paired s' t') (P × Q) (P' × Q') (refuses_lay p ws (paired s t)) (LayAnswer p ws) (Err e)
      lay_second_fails e h =
          done _ _ _ _ _ _ _ none (pair_shape s s' t t' hs ht) (λ x. absurd (when_done t t' Q Q' (refuses_lay p (drop s.bays ws) t) (LayAnswer p (drop s.bays ws)) (Err e) second_there h x.1).1)
