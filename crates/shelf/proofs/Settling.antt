-- How a shelf shows what its calls promise, and how a caller uses it.
use Rattle.std.proofs.Common.{◌≡◌, ℕ, ◌<◌, false, List, length, Some, None, Option, Result, sym, refl, ap, ◌∙◌, subst, inl, inr, ⊎_elim, arith}
use Rattle.std.proofs.lemmas.Bool.{lt-leb, eq-eqb}
use Rattle.shelf.specs.declared.refusal.Refusal.{Refusal}
use Rattle.shelf.specs.declared.shape.Shape.{Shape}
use Rattle.shelf.specs.Refusals.{too_large, bay_refusal, cell_refusal, word_refusal, lay_refusal, run_refusal}
use Rattle.shelf.specs.Table.{Table, Cell, blank, holds, Shaped, SameShape, Unchanged, Decayed, Kept}
use Rattle.shelf.specs.Calls.{Settled, refuses_read, refuses_word, refuses_lay, refuses_exchange}

-- A table beside itself.

-- its shape and its cells are its own
pub same_shape : (s : Table) → SameShape s s
same_shape s = record { bays = refl; places = refl; limit = refl }

pub undecayed : (Touched : ℕ → ℕ → Type 0) (s : Table) → Decayed Touched s s
undecayed Touched s = record { shape = same_shape s; stops = λ b h e. e; cells = λ b p h k out. inl refl }

-- One change after another.

-- equations in a row
pub shape_trans : (s t u : Table) → SameShape s t → SameShape t u → SameShape s u
shape_trans s t u h k = record { bays = k.bays ∙ h.bays; places = k.places ∙ h.places; limit = k.limit ∙ h.limit }

-- a blank cell that decays is blank
pub blank_stays : (x y : Cell) → x ≡ blank → Kept x y → y ≡ blank
blank_stays x y e k = ⊎_elim (λ h. h ∙ e) (λ h. h) k

-- a cell that decayed and still holds a word held it before
pub held_before : (x y : Cell) (w : ℕ) → y ≡ holds w → Kept x y → x ≡ holds w
held_before x y w e k = ⊎_elim (λ h. sym h ∙ e) (λ h. absurd (let z : ◌≡◌ {A = ℕ} 0 1 = cc in let v : ⊥ = omega arith in v)) k

-- a cell that keeps its word twice keeps it, and one that is blank by then is blank
pub kept_trans : (x y z : Cell) → Kept x y → Kept y z → Kept x z
kept_trans x y z h k = ⊎_elim (λ i. ⊎_elim (λ j. inl (i ∙ j)) (λ j. inr (i ∙ j)) h) (λ i. inr i) k

-- cell by cell, and bay by bay
pub decayed_trans : (Touched : ℕ → ℕ → Type 0) (s t u : Table) → Decayed Touched s t → Decayed Touched t u → Decayed Touched s u
decayed_trans Touched s t u h k = record {
  shape = shape_trans s t u h.shape k.shape;
  stops = λ b i e. h.stops b i (k.stops b (subst (λ n. b < n) (sym h.shape.bays) i) e);
  cells = λ b p i j out.
      kept_trans (s.cell b p) (t.cell b p) (u.cell b p) (h.cells b p i j out)
      (k.cells b p (subst (λ n. b < n) (sym h.shape.bays) i) (subst (λ n. p < n) (sym h.shape.places) j) out);
}

-- A call that touches more cells promises less.
pub decayed_more : (Touched More : ℕ → ℕ → Type 0) (s t : Table) → ((b p : ℕ) → Touched b p → More b p) → Decayed Touched s t → Decayed More s t
decayed_more Touched More s t more h = record { shape = h.shape; stops = h.stops; cells = λ b p i j out. h.cells b p i j (λ touched. out (more b p touched)) }

-- A call that passes each test is not refused.

-- each test is false, so none refuses
pub read_there : (b p : ℕ) (s : Table) → b < s.bays → p < s.places → refuses_read b p s ≡ None
read_there b p s h k = let e = lt-leb s.bays b h in let f = lt-leb s.places p k in simp (e, f)

pub word_there : (b p w : ℕ) (s : Table) → b < s.bays → p < s.places → w < s.limit → refuses_word b p w s ≡ None
word_there b p w s h k l = let e = lt-leb s.bays b h in let f = lt-leb s.places p k in let g = lt-leb s.limit w l in simp (e, f, g)

pub lay_there : (p : ℕ) (ws : List ℕ) (s : Table) → p < s.places → length ws ≡ s.bays → too_large s.limit ws ≡ false → refuses_lay p ws s ≡ None
lay_there p ws s h k l = let e = lt-leb s.places p h in let f = eq-eqb (length ws) s.bays k in simp (e, f, l)

-- A call that the tests on a shelf's shape let pass is not refused: the shape's numbers are those of the table.
module _ (s : Table) (n : ℕ × ℕ × ℕ) (shape : Shape) (is : Shaped s n) (from : (shape.bays ≡ n.0) × (shape.places ≡ n.1) × (shape.limit ≡ n.2)) where
  -- each number, by way of the three that the shelf answered
  pub own_bays : shape.bays ≡ s.bays
  own_bays = from.0 ∙ is.bays

  pub own_places : shape.places ≡ s.places
  own_places = from.1 ∙ is.places

  pub own_limit : shape.limit ≡ s.limit
  own_limit = from.2 ∙ is.limit

  -- put into the test one by one
  pub tested_exchange : (b : ℕ) → bay_refusal shape.bays b ≡ None → refuses_exchange b s ≡ None
  tested_exchange b none = sym (ap (λ m. bay_refusal m b) own_bays) ∙ none

  pub tested_read : (b p : ℕ) → cell_refusal shape.bays shape.places b p ≡ None → refuses_read b p s ≡ None
  tested_read b p none =
      sym (ap (λ m. cell_refusal m shape.places b p) own_bays ∙ ap (λ m. cell_refusal s.bays m b p) own_places) ∙ none

  pub tested_word : (b p w : ℕ) → word_refusal shape.bays shape.places shape.limit b p w ≡ None → refuses_word b p w s ≡ None
  tested_word b p w none =
      sym
      (ap (λ m. word_refusal m shape.places shape.limit b p w) own_bays
      ∙ (ap (λ m. word_refusal s.bays m shape.limit b p w) own_places ∙ ap (λ m. word_refusal s.bays s.places m b p w) own_limit))
      ∙ none

  pub tested_lay : (p : ℕ) (ws : List ℕ) → lay_refusal shape.bays shape.places shape.limit p ws ≡ None → refuses_lay p ws s ≡ None
  tested_lay p ws none =
      sym
      (ap (λ m. lay_refusal m shape.places shape.limit p ws) own_bays
      ∙ (ap (λ m. lay_refusal s.bays m shape.limit p ws) own_places ∙ ap (λ m. lay_refusal s.bays s.places m p ws) own_limit))
      ∙ none

  pub tested_run : (first count : ℕ) → run_refusal shape.places first count ≡ None → run_refusal s.places first count ≡ None
  tested_run first count none = sym (ap (λ m. run_refusal m first count) own_places) ∙ none

-- What a call shows, and what its caller learns: s and t are the tables before and after it, P and Q say that the states are in order,
-- and o is why it is refused, if it is.
module _ {A : Type 0} (s t : Table) (P Q : Type 0) (o : Option Refusal) (promise : Table → Table → Result A Refusal → Type 0) (r : Result A Refusal) where
  pub done : o ≡ None → SameShape s t → (P → Q × promise s t r) → SameShape s t × Settled s t P Q o promise r
  done is same kept = (same, subst (λ (x : Option Refusal). Settled s t P Q x promise r) (sym is) kept)

  -- a caller knows which case it is, and so has the promise
  pub when_done : o ≡ None → SameShape s t × Settled s t P Q o promise r → P → Q × promise s t r
  when_done is h = subst (λ (x : Option Refusal). Settled s t P Q x promise r) is h.1

-- a call that another carries out: o refuses both alike
pub carried : {A : Type 0} (o : Option Refusal) (s s' u u' : Table) (P P' R R' : Type 0) (promise promise' : Table → Table → Result A Refusal → Type 0) (r : Result A Refusal) → (Unchanged s s' → Unchanged u u') → (R → P) → (P' → R → R') → (promise s s' r → promise' u u' r) → Settled s s' P P' o promise r → Settled u u' R R' o promise' r
carried (Some e) s s' u u' P P' R R' promise promise' r same down up lift h = (h.0, same h.1, λ x. up (h.2 (down x)) x)
carried None s s' u u' P P' R R' promise promise' r same down up lift h = λ x. (up (h (down x)).0 x, lift (h (down x)).1)
