-- A lay on a rack, shelf after shelf.
use Rattle.std.proofs.Common.{◌≡◌, ℕ, ◌+◌, ◌-◌, ◌*◌, ◌%◌, ◌^◌, ◌<◌, ◌≤◌, true, false, List, map, length, get_or, set, take, drop, None, Ok, Err, Result, sym, refl, ap, ◌∙◌, subst, inl, ⊎_elim, arith, length-set, get_or-set_same, get_or-set_other}
use lib.Bits.{bit_or}
use Rattle.std.specs.Prelude.{All}
use Rattle.std.proofs.lemmas.Bool.{cases_lt}
use Rattle.std.proofs.lemmas.List.{length-map, length-take-le, length-drop, get_or-take, get_or-drop, get_or_default}
use Rattle.std.proofs.lemmas.List.Elements.{All-set}
use Rattle.std.proofs.Math.Nat.{mul-le-mul_right}
use Rattle.std.proofs.lemmas.Nat.{or_comm, pow_pos}
use Rattle.shelf.specs.declared.refusal.Refusal.{Refusal}
use Rattle.shelf.specs.Refusals.{too_large}
use Rattle.shelf.specs.Table.{Table, SameShape, Decayed, blank}
use Rattle.shelf.specs.Calls.{Outcome, Settled, refuses_lay, LayAnswer, Laid, Set, ThisPlace, bit}
use Rattle.shelf.proofs.Gathering.{bit_low, bit_high}
use Rattle.shelf.proofs.Settling.{same_shape, undecayed, shape_trans, decayed_trans, lay_there, when_done, done}
use Rattle.shelf.proofs.Words.{Fit, lay_fit, none_large}
use Rattle.layers.proofs.Parting.{Part, part_decayed}
use Rattle.layers.proofs.Laying.{joined, joined_below}
use Rattle.rack.specs.Racks.{table_at, fits, racked, share, LaidShare}
use Rattle.rack.proofs.Rows.{fit_table, fit_by_place, fits_few}
use Rattle.rack.proofs.BaysOf.{shelf_part, shelf_bays, fit_set, width_set}

module _ {S : Type 0} (f : S → Table) (P : S → Type 0) (B : S → S → ℕ → List ℕ → Result ℕ Refusal → Type 0) (xs : List S) (p : ℕ) (ws : List ℕ) where
  abbrev s : Table
  s = racked (map f xs)

  abbrev w : ℕ
  w = (table_at (map f xs) 0).bays

  -- the words of shelf i
  abbrev part_of : ℕ → List ℕ
  part_of i = share w i ws

  -- what shelf i did, by its state now
  abbrev DoneBy : List S → ℕ → ℕ → S → Type 0
  DoneBy ys bits j d = LaidShare f P B p w j ws bits (All P xs) (get_or xs j d) (get_or ys j d)

  -- what holds of the words as the code cuts them
  pub lent : (Q : List ℕ → Type 0) (i width : ℕ) → width ≡ w → Q (take (i * width + width - i * width) (drop (i * width) ws)) → Q (part_of i)
  lent Q i width is h =
      let e : i * w + w - i * w ≡ w = omega arith in
      subst Q (ap (λ n. take (i * n + n - i * n) (drop (i * n) ws)) is ∙ ap (λ n. take n (drop (i * w) ws)) e) h

  -- what is laid once i shelves are: as in a lay, but only of their bays
  record LaidTo (ys : List S) (i bits : ℕ) : Type 0 where
    rest : Decayed (ThisPlace p) s (racked (map f ys))
    set : (b : ℕ) → b < i * w → Set (get_or ws b 0) ((racked (map f ys)).cell b p)
    filled : (b : ℕ) → b < i * w → (racked (map f ys)).running b ≡ true → (racked (map f ys)).cell b p ≡ blank → ⊥
    clear : (b : ℕ) → b < i * w → bit bits b ≡ false → (racked (map f ys)).cell b p ≡ blank
    others : bits < 2 ^ (i * w)

  -- The shelves from i on are as they were.
  pub record Laying (ys : List S) (i bits : ℕ) : Type 0 where
    pub long : length ys ≡ length xs
    fit : fits (map f ys) ≡ true
    width : (table_at (map f ys) 0).bays ≡ w
    shape : SameShape s (racked (map f ys))
    ahead : (j : ℕ) (d : S) → i ≤ j → get_or ys j d ≡ get_or xs j d
    pub by_shelf : (j : ℕ) (d : S) → j < i → DoneBy ys bits j d
    so_far : All P xs → All P ys × LaidTo ys i bits

  module _ (none : refuses_lay p ws s ≡ None) where
    tests : Fit s.bays s.places s.limit p ws
    tests = lay_fit s.bays s.places s.limit p ws none

    fit : fits (map f xs) ≡ true
    fit = fit_by_place (map f xs) p tests.room

    all : s.bays ≡ length xs * w
    all = ap (λ (u : Table). u.bays) (fit_table (map f xs) fit) ∙ ap (λ n. n * w) (length-map xs f)

    -- each shelf's words are among those laid, which are few
    pub cut_within : (i width : ℕ) → i < length xs → width ≡ w → (i * width + width ≤ length ws) × (length ws ≤ 23)
    cut_within i width few is =
        let m : (i + 1) * w ≤ length xs * w = mul-le-mul_right w (let z : i + 1 ≤ length xs = omega arith in z) in
        let e = all in
        let n = tests.count in
        let d = fits_few (map f xs) fit in
        let l = ap (λ n. n * w) (length-map xs f) in
        (subst (λ v. i * v + v ≤ length ws) (sym is) (omega (arith, m, e, n)), omega (arith, e, n, d, l))

    pub laying_none : Laying xs 0 0
    laying_none = record {
      long = refl;
      fit = fit;
      width = refl;
      shape = same_shape s;
      ahead = λ j d i. refl;
      by_shelf = λ j d l. absurd (omega (arith, l));
      so_far = λ each. (each, record { rest = undecayed (ThisPlace p) s; set = λ b l. absurd (omega (arith, l)); filled = λ b l. absurd (omega (arith, l)); clear = λ b l. absurd (omega (arith, l)); others = pow_pos (0 * w) });
    }

    -- One shelf more: s0 is its state before its lay, s1 the one after it.
    module _ (ys : List S) (i bits : ℕ) (laying : Laying ys i bits) (few : i < length xs) (s0 s1 : S) (is : s0 ≡ get_or ys i s0) where
      few' : i < length ys
      few' = let e = laying.long in omega arith

      wide : SameShape (f s0) (f s1) → (f s0).bays ≡ w
      wide same = shelf_bays f ys i s0 s1 laying.fit few' is same ∙ laying.width

      within : (i * w + w ≤ length ws) × (length ws ≤ 23)
      within = cut_within i w few refl

      part : SameShape (f s0) (f s1) → Part (i * w) (f s0) (f s1) (racked (map f ys)) (racked (map f (set ys i s1)))
      part same = subst (λ v. Part (i * v) (f s0) (f s1) (racked (map f ys)) (racked (map f (set ys i s1)))) laying.width (shelf_part f ys i s0 s1 laying.fit few' is same)

      -- its words
      part_long : length (part_of i) ≡ w
      part_long = let d = length-drop (i * w) ws in let m = within in length-take-le w (drop (i * w) ws) (omega (arith, d, m))

      part_word : (x : ℕ) → x < w → get_or (part_of i) x 0 ≡ get_or ws (i * w + x) 0
      part_word x narrow = get_or-take w (drop (i * w) ws) x 0 narrow ∙ get_or-drop (i * w) ws x 0

      part_small : (limit : ℕ) → limit ≡ s.limit → too_large limit (part_of i) ≡ false
      part_small limit e = none_large limit (part_of i) (λ j d.
          let narrow : j < w = (let l = part_long in omega arith) in
          let low = tests.low (i * w + j) (let m = within in omega arith) in
          let same = part_word j narrow in
          omega (arith, low, same, e))

      part_none : SameShape (f s0) (f s1) → refuses_lay p (part_of i) (f s0) ≡ None
      part_none same =
          let u = part same in
          let v = laying.shape in
          let room = tests.room in
          lay_there p (part_of i) (f s0) (let a = u.places in let b = v.places in omega arith) (part_long ∙ sym (wide same)) (part_small (f s0).limit (sym u.limit ∙ v.limit))

      module _ (r : Result ℕ Refusal) (laid : Outcome f P s0 s1 (refuses_lay p (part_of i)) (LayAnswer p (part_of i)) r) where
        ordered : All P xs → P s1 × LayAnswer p (part_of i) (f s0) (f s1) r
        ordered each =
            when_done (f s0) (f s1) (P s0) (P s1) (refuses_lay p (part_of i) (f s0)) (LayAnswer p (part_of i)) r (part_none laid.0) laid
            (subst P (sym is) ((laying.so_far each).0 i s0 few'))

        shape_after : SameShape s (racked (map f (set ys i s1)))
        shape_after = shape_trans s (racked (map f ys)) (racked (map f (set ys i s1))) laying.shape (part laid.0).shape

        -- A shelf in order does not refuse its part, so this can't come from a rack in order.
        pub laying_fails : (e : Refusal) → r ≡ Err e → SameShape s (racked (map f (set ys i s1))) × Settled s (racked (map f (set ys i s1))) (All P xs) (All P (set ys i s1)) (refuses_lay p ws s) (LayAnswer p ws) (Err e)
        laying_fails e err = done _ _ _ _ _ _ _ none shape_after (λ each. absurd (subst (LayAnswer p (part_of i) (f s0) (f s1)) err (ordered each).1))

      module _ (laid : ℕ) (lays : Outcome f P s0 s1 (refuses_lay p (part_of i)) (LayAnswer p (part_of i)) (Ok laid)) (bits_told : B s0 s1 p (part_of i) (Ok laid)) where
        abbrev t : Table
        t = racked (map f ys)

        abbrev t' : Table
        t' = racked (map f (set ys i s1))

        abbrev more : ℕ
        more = laid * 2 ^ (i * w) + bits

        split : (b : ℕ) → b < (i + 1) * w → i * w ≤ b → (b ≡ i * w + (b - i * w)) × (b - i * w < w)
        split b few past = (omega arith, omega (arith, few))

        module _ (told : LaidTo ys i bits) (new : Laid p (part_of i) (f s0) (f s1) laid) where
          -- the bays before are as they were
          before_cell : (b : ℕ) → b < i * w → t'.cell b p ≡ t.cell b p
          before_cell b l = (part lays.0).other_cells b p (let d = (part lays.0).inside in omega arith) (inl l)

          before_running : (b : ℕ) → b < i * w → t'.running b ≡ t.running b
          before_running b l = (part lays.0).other_running b (let d = (part lays.0).inside in omega arith) (inl l)

          -- and the shelf's own are as it laid them
          here_cell : (b : ℕ) → (b ≡ i * w + (b - i * w)) × (b - i * w < w) → t'.cell b p ≡ (f s1).cell (b - i * w) p
          here_cell b (at, narrow) = (part lays.0).cell_after b (b - i * w) p at (let e = wide lays.0 in omega arith)

          here_running : (b : ℕ) → (b ≡ i * w + (b - i * w)) × (b - i * w < w) → t'.running b ≡ (f s1).running (b - i * w)
          here_running b (at, narrow) = (part lays.0).running_after b (b - i * w) at (let e = wide lays.0 in omega arith)

          new_low : laid < 2 ^ w
          new_low = subst (λ n. laid < 2 ^ n) (wide lays.0) new.others

          laid_more : LaidTo (set ys i s1) (i + 1) more
          laid_more = record {
            rest = decayed_trans (ThisPlace p) s t t' told.rest (part_decayed (i * w) (f s0) (f s1) t t' (part lays.0) (ThisPlace p) (ThisPlace p) (λ b x q at touched. touched) new.rest);
            set = λ b few. ⊎_elim
                (λ l. subst (Set (get_or ws b 0)) (sym (before_cell b l)) (told.set b l))
                (λ l.
                let in' = split b few l in
                subst (Set (get_or ws b 0)) (sym (here_cell b in'))
                (subst (λ v. Set v ((f s1).cell (b - i * w) p)) (part_word (b - i * w) in'.1 ∙ ap (λ n. get_or ws n 0) (sym in'.0)) (new.set (b - i * w) (let e = wide lays.0 in omega (arith, in'.1, e)))))
                (cases_lt b (i * w));
            filled = λ b few run empty. ⊎_elim
                (λ l. told.filled b l (sym (before_running b l) ∙ run) (sym (before_cell b l) ∙ empty))
                (λ l.
                let in' = split b few l in
                new.filled (b - i * w) (let e = wide lays.0 in omega (arith, in'.1, e)) (sym (here_running b in') ∙ run) (sym (here_cell b in') ∙ empty))
                (cases_lt b (i * w));
            clear = λ b few off. ⊎_elim
                (λ l. before_cell b l ∙ told.clear b l (sym (bit_low laid (i * w) bits b l) ∙ off))
                (λ l.
                let in' = split b few l in
                here_cell b in' ∙ new.clear (b - i * w) (let e = wide lays.0 in omega (arith, in'.1, e)) (sym (bit_high laid (i * w) bits b told.others l) ∙ off))
                (cases_lt b (i * w));
            others = subst (λ n. more < 2 ^ n) (let z : i * w + w ≡ (i + 1) * w = omega arith in z) (joined_below laid (i * w) bits w told.others new_low);
          }

          -- shifted and joined, the bits are the sum
          bits_joined : bit_or bits ((laid * 2 ^ (i * w)) % 4294967296) ≡ more
          bits_joined =
              or_comm bits ((laid * 2 ^ (i * w)) % 4294967296)
              ∙ joined laid (i * w) bits w told.others new_low (let m = within in omega (arith, m))

          -- so each shelf's bits stand where they stood, and the new ones after them
          stand_before : (j x : ℕ) → j < i → x < w → bit (bit_or bits ((laid * 2 ^ (i * w)) % 4294967296)) (j * w + x) ≡ bit bits (j * w + x)
          stand_before j x past narrow =
              let m : (j + 1) * w ≤ i * w = mul-le-mul_right w (let z : j + 1 ≤ i = omega arith in z) in
              ap (λ n. bit n (j * w + x)) bits_joined ∙ bit_low laid (i * w) bits (j * w + x) (omega (arith, m))

          stand_here : (x : ℕ) → bit (bit_or bits ((laid * 2 ^ (i * w)) % 4294967296)) (i * w + x) ≡ bit laid x
          stand_here x =
              let z : i * w + x - i * w ≡ x = omega arith in
              ap (λ n. bit n (i * w + x)) bits_joined ∙ bit_high laid (i * w) bits (i * w + x) told.others (omega arith) ∙ ap (bit laid) z

        abbrev all_bits : ℕ
        all_bits = bit_or bits ((laid * 2 ^ (i * w)) % 4294967296)

        told_by : All P xs → LaidTo ys i bits
        told_by each = (laying.so_far each).1

        new_by : All P xs → Laid p (part_of i) (f s0) (f s1) laid
        new_by each = (ordered (Ok laid) lays each).1

        -- A shelf before did what it did, and this one what it answers.
        done_before : (j : ℕ) (d : S) → j < i → DoneBy (set ys i s1) all_bits j d
        done_before j d past =
            let before = laying.by_shelf j d past in
            subst (λ s'. LaidShare f P B p w j ws all_bits (All P xs) (get_or xs j d) s') (sym (get_or-set_other ys i j s1 d (omega arith)))
            (record { own = before.own; laid = before.laid; told = before.told; stand = λ each x narrow. stand_before (told_by each) (new_by each) j x past narrow ∙ before.stand each x narrow })

        done_here : (d : S) → DoneBy (set ys i s1) all_bits i d
        done_here d =
            let start : get_or xs i d ≡ s0 = sym (laying.ahead i d (omega arith)) ∙ get_or_default ys i d s0 few' ∙ sym is in
            subst (λ s'. LaidShare f P B p w i ws all_bits (All P xs) (get_or xs i d) s') (sym (get_or-set_same ys i s1 d few'))
            (subst (λ s'. LaidShare f P B p w i ws all_bits (All P xs) s' s1) (sym start)
            (record { own = laid; laid = lays; told = bits_told; stand = λ each x narrow. stand_here (told_by each) (new_by each) x }))

        pub laying_more : Laying (set ys i s1) (i + 1) (bit_or bits ((laid * 2 ^ (i * w)) % 4294967296))
        laying_more = record {
          long = length-set ys i s1 ∙ laying.long;
          fit = fit_set f ys i s0 s1 laying.fit few' is lays.0;
          width = width_set f ys i s0 s1 laying.fit few' is lays.0 ∙ laying.width;
          shape = shape_after (Ok laid) lays;
          ahead = λ j d past. get_or-set_other ys i j s1 d (omega arith) ∙ laying.ahead j d (omega arith);
          by_shelf = λ j d past. ⊎_elim
              (λ l. done_before j d l)
              (λ l. let at : i ≡ j = omega arith in subst (λ j. DoneBy (set ys i s1) all_bits j d) at (done_here d))
              (cases_lt j i);
          so_far = λ each.
              let (kept, told) = laying.so_far each in
              let (still, new) = ordered (Ok laid) lays each in
              (All-set P ys i s1 still kept, subst (LaidTo (set ys i s1) (i + 1)) (sym (bits_joined told new)) (laid_more told new));
        }

    -- After the last shelf all is laid.
    pub laying_all : (ys : List S) (i bits : ℕ) → Laying ys i bits → length xs ≤ i → i ≤ length xs → SameShape s (racked (map f ys)) × Settled s (racked (map f ys)) (All P xs) (All P ys) (refuses_lay p ws s) (LayAnswer p ws) (Ok bits)
    laying_all ys i bits laying end most =
        let e : s.bays ≡ i * w = all ∙ ap (λ n. n * w) (let z : length xs ≡ i = omega arith in z) in
        done _ _ _ _ _ _ _ none laying.shape
        (λ each.
        let (kept, told) = laying.so_far each in (
          kept,
          record {
            rest = told.rest;
            set = λ b low. told.set b (omega (arith, e, low));
            filled = λ b low. told.filled b (omega (arith, e, low));
            clear = λ b low. told.clear b (omega (arith, e, low));
            others = subst (λ n. bits < 2 ^ n) (sym e) told.others;
          },
        ))

    -- and each shelf did its part
    pub laid_by_shelf : (ys : List S) (i bits : ℕ) → Laying ys i bits → length xs ≤ i → (length ys ≡ length xs) × ((j : ℕ) (d : S) → j < length xs → DoneBy ys bits j d)
    laid_by_shelf ys i bits laying end = (laying.long, λ j d l. laying.by_shelf j d (omega (arith, l, end)))
