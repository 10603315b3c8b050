-- What a rack means: bay b is bay b mod w of shelf b div w, where each shelf has w bays. Shelves that do not go together have no bays and
-- no places.
use Rattle.std.specs.Prelude.{◌≡◌, ℕ, ◌+◌, ◌*◌, ◌/◌, ◌%◌, ◌<◌, ◌≤◌, Bool, true, false, cond, ◌&&◌, ◌==◌, ◌≢◌, List, map, length, take, drop, slice_index_or, Ok, Err, Result, nat_le, vec_items, All}
use Rattle.std.specs.List.{list_all}
use Rattle.shelf.specs.declared.refusal.Refusal.{Refusal}
use Rattle.shelf.specs.declared.refusal.Refusal.TheVariants.{NoSuchBay}
use Rattle.shelf.specs.Bounds.{most_bays}
use Rattle.shelf.specs.Table.{Table, Fitting, blank}
use Rattle.shelf.specs.Calls.{Outcome, refuses_lay, LayAnswer, bit}
use Rattle.rack.specs.declared.rack.Rack.{Rack}
use Rattle.rack.specs.declared.rack.Slot.{Slot}

-- no shelf: no bays and no places
abbrev pub no_table : Table
no_table = record { bays = 0; places = 0; limit = 0; cell = λ b p. blank; running = λ b. false }

-- the table of shelf i
abbrev pub table_at : List Table → ℕ → Table
table_at ts i = slice_index_or ts i no_table

-- whether a table has this shape, and whether all have it
abbrev pub like : ℕ × ℕ × ℕ → Table → Bool
like shape t = t.bays == shape.0 && (t.places == shape.1 && t.limit == shape.2)

abbrev pub all_like : ℕ × ℕ × ℕ → List Table → Bool
all_like shape ts = list_all (like shape) ts

-- whether they go together where the first has this shape: few enough bays, and all of it
abbrev pub together : ℕ × ℕ × ℕ → List Table → Bool
together shape ts = nat_le (length ts * shape.0) most_bays && all_like shape ts

abbrev pub shape_of : Table → ℕ × ℕ × ℕ
shape_of t = (t.bays, t.places, t.limit)

abbrev pub fits : List Table → Bool
fits ts = together (shape_of (table_at ts 0)) ts

abbrev pub racked_when : Bool → List Table → Table
racked_when fit ts = record {
  bays = cond fit (length ts * (table_at ts 0).bays) 0;
  places = cond fit (table_at ts 0).places 0;
  limit = (table_at ts 0).limit;
  cell = λ b p. (table_at ts (b / (table_at ts 0).bays)).cell (b % (table_at ts 0).bays) p;
  running = λ b. (table_at ts (b / (table_at ts 0).bays)).running (b % (table_at ts 0).bays);
}

unfoldable pub racked : List Table → Table
racked ts = racked_when (fits ts) ts

-- the table of a rack, by those of its shelves
abbrev pub rack_table : {S : Type 0} → (S → Table) → Rack S → Table
rack_table f r = racked (map f (vec_items r.shelves))

-- a rack is in order when each of its shelves is
abbrev pub EachInOrder : {S : Type 0} → (S → Type 0) → Rack S → Type 0
EachInOrder P r = All P (vec_items r.shelves)

-- where a bay of the rack is, or that there is none
abbrev pub InRack : List Table → ℕ → Result Slot Refusal → Type 0
InRack ts bay (Ok slot) = (fits ts ≡ true) × (slot.shelf < length ts) × (slot.bay < (table_at ts 0).bays) × (bay ≡ slot.shelf * (table_at ts 0).bays + slot.bay)
InRack ts bay (Err e) = (e ≡ NoSuchBay) × ((racked ts).bays ≤ bay)

-- each shelf's table keeps the bounds of a shelf
abbrev pub EachFitting : {S : Type 0} → (S → Table) → List S → Type 0
EachFitting f xs = All (λ s. Fitting (f s)) xs

-- the bays of each shelf
abbrev pub width : {S : Type 0} → (S → Table) → Rack S → ℕ
width f r = (table_at (map f (vec_items r.shelves)) 0).bays

-- a call on a bay leaves every other shelf as it is, and all of them where the rack lacks the bay
pub record Aside {S : Type 0} (f : S → Table) (bay : ℕ) (r r' : Rack S) : Type 0 where
  pub many : length (vec_items r'.shelves) ≡ length (vec_items r.shelves)
  pub others : (i : ℕ) (d : S) → i ≢ bay / width f r → slice_index_or (vec_items r'.shelves) i d ≡ slice_index_or (vec_items r.shelves) i d
  pub lacking : (rack_table f r).bays ≤ bay → r' ≡ r

-- the words of a lay that shelf i takes, where each takes w
abbrev pub share : ℕ → ℕ → List ℕ → List ℕ
share w i ws = take w (drop (i * w) ws)

-- Shelf i lays its words, B tells of its bits, and they stand among the rack's from bit i * w on.
pub record LaidShare {S : Type 0} (f : S → Table) (P : S → Type 0) (B : S → S → ℕ → List ℕ → Result ℕ Refusal → Type 0) (place w i : ℕ) (ws : List ℕ) (bits : ℕ) (in_order : Type 0) (s s' : S) : Type 0 where
  pub own : ℕ
  pub laid : Outcome f P s s' (refuses_lay place (share w i ws)) (LayAnswer place (share w i ws)) (Ok own)
  pub told : B s s' place (share w i ws) (Ok own)
  pub stand : in_order → (x : ℕ) → x < w → bit bits (i * w + x) ≡ bit own x

-- So do all shelves in a lay that answers bits.
abbrev pub LaidByShelf : {S : Type 0} → (S → Table) → (S → Type 0) → (S → S → ℕ → List ℕ → Result ℕ Refusal → Type 0) → Rack S → Rack S → ℕ → List ℕ → Result ℕ Refusal → Type 0
LaidByShelf {S} f P B r r' place ws (Ok bits) =
    (length (vec_items r'.shelves) ≡ length (vec_items r.shelves))
    × ((i : ℕ) (d : S) → i < length (vec_items r.shelves) → LaidShare f P B place (width f r) i ws bits (EachInOrder P r) (slice_index_or (vec_items r.shelves) i d) (slice_index_or (vec_items r'.shelves) i d))
LaidByShelf f P B r r' place ws (Err e) = Unit {0}
