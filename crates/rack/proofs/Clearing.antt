-- Clearing a place of a rack, shelf after shelf.
use Rattle.std.proofs.Common.{◌≡◌, ℕ, ◌+◌, ◌-◌, ◌*◌, ◌<◌, ◌≤◌, true, List, map, length, get_or, set, sym, refl, ap, ◌∙◌, subst, inl, ⊎_elim, arith, length-set, get_or-set_other}
use Rattle.std.specs.Prelude.{All}
use Rattle.std.proofs.lemmas.Bool.{cases_lt}
use Rattle.std.proofs.lemmas.List.{length-map}
use Rattle.std.proofs.lemmas.List.Elements.{All-set}
use Rattle.shelf.specs.Table.{Table, SameShape, Decayed, blank}
use Rattle.shelf.specs.Calls.{ThisPlace, Cleared, Clears}
use Rattle.shelf.proofs.Settling.{same_shape, undecayed, shape_trans, decayed_trans}
use Rattle.layers.proofs.Parting.{Part, part_decayed}
use Rattle.rack.specs.Racks.{table_at, fits, racked}
use Rattle.rack.proofs.Rows.{fit_table, fit_by_bay}
use Rattle.rack.proofs.BaysOf.{shelf_part, shelf_bays, fit_set, width_set}

module _ {S : Type 0} (f : S → Table) (P : S → Type 0) (xs : List S) (p : ℕ) where
  abbrev s : Table
  s = racked (map f xs)

  abbrev w : ℕ
  w = (table_at (map f xs) 0).bays

  -- what is cleared once i shelves are: as at the end, but only of their bays
  record ClearedTo (ys : List S) (i : ℕ) : Type 0 where
    rest : Decayed (ThisPlace p) s (racked (map f ys))
    gone : (b : ℕ) → b < i * w → p < s.places → (racked (map f ys)).cell b p ≡ blank

  -- The shelves from i on are as they were.
  pub record Clearing (ys : List S) (i : ℕ) : Type 0 where
    pub long : length ys ≡ length xs
    fit : fits (map f ys) ≡ true
    width : (table_at (map f ys) 0).bays ≡ w
    shape : SameShape s (racked (map f ys))
    ahead : (j : ℕ) (d : S) → i ≤ j → get_or ys j d ≡ get_or xs j d
    so_far : All P xs → All P ys × ClearedTo ys i

  -- a rack without bays is left alone
  pub none_to_clear : s.bays ≡ 0 → SameShape s s × (All P xs → All P xs × Cleared p s s)
  none_to_clear none = (same_shape s, λ each. (each, record { rest = undecayed (ThisPlace p) s; gone = λ b l q. absurd (omega (arith, l, none)) }))

  module _ (some : 0 < s.bays) where
    fit : fits (map f xs) ≡ true
    fit = fit_by_bay (map f xs) 0 some

    all : s.bays ≡ length xs * w
    all = ap (λ (u : Table). u.bays) (fit_table (map f xs) fit) ∙ ap (λ n. n * w) (length-map xs f)

    pub clearing_none : Clearing xs 0
    clearing_none = record {
      long = refl;
      fit = fit;
      width = refl;
      shape = same_shape s;
      ahead = λ j d i. refl;
      so_far = λ each. (each, record { rest = undecayed (ThisPlace p) s; gone = λ b l q. absurd (omega (arith, l)) });
    }

    -- One shelf more: s0 is its state before it is cleared, s1 the one after.
    module _ (ys : List S) (i : ℕ) (clearing : Clearing ys i) (few : i < length xs) (s0 s1 : S) (is : s0 ≡ get_or ys i s0) (clears : Clears f P p s0 s1) where
      abbrev t : Table
      t = racked (map f ys)

      abbrev t' : Table
      t' = racked (map f (set ys i s1))

      few' : i < length ys
      few' = let e = clearing.long in omega arith

      wide : (f s0).bays ≡ w
      wide = shelf_bays f ys i s0 s1 clearing.fit few' is clears.0 ∙ clearing.width

      part : Part (i * w) (f s0) (f s1) t t'
      part = subst (λ v. Part (i * v) (f s0) (f s1) t t') clearing.width (shelf_part f ys i s0 s1 clearing.fit few' is clears.0)

      -- the shelf has the places of the rack
      places : (f s0).places ≡ s.places
      places = sym part.places ∙ clearing.shape.places

      -- the bays before are as they were, and the shelf's own are blank
      gone_more : ClearedTo ys i → Cleared p (f s0) (f s1) → (b : ℕ) → b < (i + 1) * w → p < s.places → t'.cell b p ≡ blank
      gone_more told new b low room = ⊎_elim
          (λ l. part.other_cells b p (let d = part.inside in omega arith) (inl l) ∙ told.gone b l room)
          (λ l.
          let at : b ≡ i * w + (b - i * w) = omega arith in
          let narrow : b - i * w < w = omega (arith, low) in
          let e = wide in
          let q = places in
          part.cell_after b (b - i * w) p at (omega arith) ∙ new.gone (b - i * w) (omega arith) (omega arith))
          (cases_lt b (i * w))

      pub clearing_more : Clearing (set ys i s1) (i + 1)
      clearing_more = record {
        long = length-set ys i s1 ∙ clearing.long;
        fit = fit_set f ys i s0 s1 clearing.fit few' is clears.0;
        width = width_set f ys i s0 s1 clearing.fit few' is clears.0 ∙ clearing.width;
        shape = shape_trans s t t' clearing.shape part.shape;
        ahead = λ j d past. get_or-set_other ys i j s1 d (omega arith) ∙ clearing.ahead j d (omega arith);
        so_far = λ each.
            let (kept, told) = clearing.so_far each in
            let (still, new) = clears.1 (subst P (sym is) (kept i s0 few')) in (
              All-set P ys i s1 still kept,
              record {
                rest = decayed_trans (ThisPlace p) s t t' told.rest (part_decayed (i * w) (f s0) (f s1) t t' part (ThisPlace p) (ThisPlace p) (λ b x q at touched. touched) new.rest);
                gone = gone_more told new;
              },
            );
      }

    -- After the last shelf all is cleared.
    pub clearing_all : (ys : List S) (i : ℕ) → Clearing ys i → length xs ≤ i → i ≤ length xs → SameShape s (racked (map f ys)) × (All P xs → All P ys × Cleared p s (racked (map f ys)))
    clearing_all ys i clearing end most =
        let e : s.bays ≡ i * w = all ∙ ap (λ n. n * w) (let z : length xs ≡ i = omega arith in z) in
        (clearing.shape, λ each. let (kept, told) = clearing.so_far each in (kept, record { rest = told.rest; gone = λ b low room. told.gone b (omega (arith, e, low)) room }))
