-- What a pair of shelves means: the second shelf's bays after the first's. Two that do not go together have no bays and no places.
use Rattle.std.specs.Prelude.{◌≡◌, ℕ, ◌+◌, ◌-◌, ◌*◌, ◌^◌, ◌<◌, ◌≤◌, Bool, true, cond, ◌&&◌, List, take, drop, Ok, Err, Result, ◌==◌, nat_le, nat_lt}
use Rattle.shelf.specs.declared.refusal.Refusal.{Refusal}
use Rattle.shelf.specs.declared.refusal.Refusal.TheVariants.{NoSuchBay}
use Rattle.shelf.specs.Bounds.{most_bays}
use Rattle.shelf.specs.Table.{Table}
use Rattle.shelf.specs.Calls.{Outcome, refuses_lay, LayAnswer}
use Rattle.layers.specs.declared.pair.Pair.{Pair}
use Rattle.layers.specs.declared.pair.Half.{Half}
use Rattle.layers.specs.declared.pair.Half.TheVariants.{First, Second}

-- whether the two go together: few enough bays, and one number of places and one limit
abbrev pub fits : Table → Table → Bool
fits s t = nat_le (s.bays + t.bays) most_bays && (s.places == t.places && s.limit == t.limit)

abbrev pub paired_when : Bool → Table → Table → Table
paired_when fit s t = record {
  bays = cond fit (s.bays + t.bays) 0;
  places = cond fit s.places 0;
  limit = s.limit;
  cell = λ b p. cond (nat_lt b s.bays) (s.cell b p) (t.cell (b - s.bays) p);
  running = λ b. cond (nat_lt b s.bays) (s.running b) (t.running (b - s.bays));
}

unfoldable pub paired : Table → Table → Table
paired s t = paired_when (fits s t) s t

-- where a bay of the pair is, or that there is none
abbrev pub InHalf : Table → Table → ℕ → Result Half Refusal → Type 0
InHalf s t bay (Ok First) = (fits s t ≡ true) × (bay < s.bays)
InHalf s t bay (Ok (Second x)) = (fits s t ≡ true) × (bay ≡ s.bays + x) × (x < t.bays)
InHalf s t bay (Err e) = (e ≡ NoSuchBay) × ((paired s t).bays ≤ bay)

-- the table of a pair, by those of its shelves
abbrev pub pair_table : {A B : Type 0} → (A → Table) → (B → Table) → Pair A B → Table
pair_table f g x = paired (f x.first) (g x.second)

-- a pair is in order when both shelves are
abbrev pub Both : {A B : Type 0} → (A → Type 0) → (B → Type 0) → Pair A B → Type 0
Both P Q x = P x.first × Q x.second

-- a call on a bay of one shelf leaves the other as it is, and both where the pair lacks the bay
pub record Aside {A B : Type 0} (f : A → Table) (g : B → Table) (bay : ℕ) (x y : Pair A B) : Type 0 where
  pub second : bay < (f x.first).bays → y.second ≡ x.second
  pub first : (f x.first).bays ≤ bay → y.first ≡ x.first
  pub lacking : (pair_table f g x).bays ≤ bay → y ≡ x

-- The bits of a lay are those that the two shelves answer, of which C and D tell, the second's above the first's. The first takes as
-- many words as it has bays, the second those after them.
abbrev pub Joined : {A B : Type 0} → (A → Table) → (A → Type 0) → (A → A → ℕ → List ℕ → Result ℕ Refusal → Type 0) → (B → Table) → (B → Type 0) → (B → B → ℕ → List ℕ → Result ℕ Refusal → Type 0) → Pair A B → Pair A B → ℕ → List ℕ → Result ℕ Refusal → Type 0
Joined f P C g Q D x y place ws (Ok bits) =
    (low high : ℕ) × (Both P Q x → bits ≡ high * 2 ^ (f x.first).bays + low)
    × Outcome f P x.first y.first (refuses_lay place (take (f x.first).bays ws)) (LayAnswer place (take (f x.first).bays ws)) (Ok low)
    × Outcome g Q x.second y.second (refuses_lay place (drop (f x.first).bays ws)) (LayAnswer place (drop (f x.first).bays ws)) (Ok high)
    × C x.first y.first place (take (f x.first).bays ws) (Ok low) × D x.second y.second place (drop (f x.first).bays ws) (Ok high)
Joined f P C g Q D x y place ws (Err e) = Unit {0}
