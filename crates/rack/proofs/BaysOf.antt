-- A call on one bay of a rack: what the shelf that has the bay shows of it, the rack shows.
use Rattle.std.proofs.Common.{◌≡◌, ℕ, ◌+◌, ◌*◌, ◌/◌, ◌<◌, ◌≤◌, true, List, map, length, get_or, set, vec_items, Ok, Option, Result, sym, ap, ◌∙◌, subst, arith, length-set, get_or-set_other}
use Rattle.std.specs.Vec.{with_item}
use Rattle.std.proofs.lemmas.List.{get_or-map, length-map, map-set}
use Rattle.std.proofs.lemmas.Nat.{div-mul-add}
use Rattle.std.proofs.Math.Nat.{mul-le-mul_right}
use Rattle.std.proofs.lemmas.List.Elements.{All-set}
use Rattle.shelf.specs.declared.refusal.Refusal.{Refusal}
use Rattle.shelf.specs.Table.{Table, SameShape}
use Rattle.shelf.specs.Calls.{Outcome}
use Rattle.layers.proofs.Parting.{Part, part_settled}
use Rattle.layers.proofs.Halves.{Kind}
use Rattle.rack.specs.declared.rack.Rack.{Rack}
use Rattle.rack.specs.declared.rack.Slot.{Slot}
use Rattle.rack.specs.Racks.{no_table, table_at, fits, racked, rack_table, EachInOrder, InRack, Aside}
use Rattle.rack.proofs.Rows.{fits_like, fit_table}
use Rattle.rack.proofs.Parts.{rack_part, fit_after, first_same}

-- A shelf of the row, before and after a call on it, is a part of the rack.
pub shelf_part : {S : Type 0} (f : S → Table) (xs : List S) (i : ℕ) (s s' : S) → fits (map f xs) ≡ true → i < length xs → s ≡ get_or xs i s → SameShape (f s) (f s')
    → Part (i * (table_at (map f xs) 0).bays) (f s) (f s') (racked (map f xs)) (racked (map f (set xs i s')))
shelf_part f xs i s s' fit few is same =
    let ts = map f xs in
    let e : table_at ts i ≡ f s = get_or-map f xs i s no_table few ∙ ap f (sym is) in
    subst (λ us. Part (i * (table_at ts 0).bays) (f s) (f s') (racked ts) (racked us)) (sym (map-set f xs i s'))
    (subst (λ t. Part (i * (table_at ts 0).bays) t (f s') (racked ts) (racked (set ts i (f s')))) e
    (rack_part ts fit i (let long = length-map xs f in omega (arith, long, few)) (f s') (subst (λ t. SameShape t (f s')) (sym e) same)))

module _ {S A : Type 0} (f : S → Table) (P : S → Type 0) (refusal : ℕ → Table → Option Refusal) (promise : ℕ → Table → Table → Result A Refusal → Type 0) (kind : Kind refusal promise) (rack : Rack S) (b : ℕ) (slot : Slot) (here : InRack (map f (vec_items rack.shelves)) b (Ok slot)) (s s' : S) (is : s ≡ get_or (vec_items rack.shelves) slot.shelf s) where
  abbrev xs : List S
  xs = vec_items rack.shelves

  few : slot.shelf < length xs
  few = let long = length-map xs f in omega (arith, here.1, long)

  pub on_shelf : (r : Result A Refusal) → Outcome f P s s' (refusal slot.bay) (promise slot.bay) r → Outcome (rack_table f) (EachInOrder P) rack (record { shelves = with_item rack.shelves slot.shelf s' }) (refusal b) (promise b) r
  on_shelf r done =
      let ts = map f xs in
      let k = slot.shelf * (table_at ts 0).bays in
      let part = shelf_part f xs slot.shelf s s' here.0 few is done.0 in
      let e : table_at ts slot.shelf ≡ f s = get_or-map f xs slot.shelf s no_table few ∙ ap f (sym is) in
      let wide = (fits_like ts here.0 slot.shelf here.1).bays in
      let same = ap (λ (t : Table). t.bays) e in
      let narrow : slot.bay < (f s).bays = (let d = here.2 in omega arith) in
      let u = racked ts in
      let u' = racked (map f (set xs slot.shelf s')) in
      part_settled k (f s) (f s') u u' part b slot.bay here.3 narrow (P s) (P s') (EachInOrder P rack) (EachInOrder P (record { shelves = with_item rack.shelves slot.shelf s' }))
      (λ each. subst P (sym is) (each slot.shelf s few)) (λ after each. All-set P xs slot.shelf s' after each) refusal promise r
      (kind.alike k (f s) (f s') u u' part b slot.bay here.3 narrow) (kind.lifts k (f s) (f s') u u' part b slot.bay here.3 narrow r) done

-- The row goes together after the call too, each shelf as wide as before.
module _ {S : Type 0} (f : S → Table) (xs : List S) (i : ℕ) (s s' : S) (fit : fits (map f xs) ≡ true) (few : i < length xs) (is : s ≡ get_or xs i s) (same : SameShape (f s) (f s')) where
  at_shelf : table_at (map f xs) i ≡ f s
  at_shelf = get_or-map f xs i s no_table few ∙ ap f (sym is)

  low : i < length (map f xs)
  low = let long = length-map xs f in omega (arith, long, few)

  same_there : SameShape (table_at (map f xs) i) (f s')
  same_there = subst (λ t. SameShape t (f s')) (sym at_shelf) same

  pub fit_set : fits (map f (set xs i s')) ≡ true
  fit_set = ap fits (map-set f xs i s') ∙ fit_after (map f xs) fit i low (f s') same_there

  pub width_set : (table_at (map f (set xs i s')) 0).bays ≡ (table_at (map f xs) 0).bays
  width_set = ap (λ us. (table_at us 0).bays) (map-set f xs i s') ∙ (first_same (map f xs) fit i low (f s') same_there).bays

  pub shelf_bays : (f s).bays ≡ (table_at (map f xs) 0).bays
  shelf_bays = sym (ap (λ (t : Table). t.bays) at_shelf) ∙ (fits_like (map f xs) fit i low).bays

-- What a call on a bay makes of the row: the shelf that has the bay is another, and the rest stand as they did.
pub others_stay : {S : Type 0} (f : S → Table) (rack : Rack S) (b : ℕ) (slot : Slot) → InRack (map f (vec_items rack.shelves)) b (Ok slot) → (s' : S) → Aside f b rack (record { shelves = with_item rack.shelves slot.shelf s' })
others_stay f rack b slot here s' =
    let xs = vec_items rack.shelves in
    let ts = map f xs in
    let w = (table_at ts 0).bays in
    let at : b / w ≡ slot.shelf = ap (λ n. n / w) here.3 ∙ div-mul-add slot.shelf w slot.bay here.2 in
    record {
      many = length-set xs slot.shelf s';
      others = λ i d away. get_or-set_other xs slot.shelf i s' d (λ same. away (same ∙ sym at));
      lacking = λ none.
          let all = ap (λ (u : Table). u.bays) (fit_table ts here.0) in
          let m : (slot.shelf + 1) * w ≤ length ts * w = mul-le-mul_right w (let few = here.1 in let z : slot.shelf + 1 ≤ length ts = omega arith in z) in
          let narrow = here.2 in
          let is = here.3 in
          absurd (let y : ⊥ = omega (arith, none, all, m, narrow, is) in y);
    }
