-- From the words that were read to the vectors that agree with the place.
use Rattle.std.proofs.Common.{◌≡◌, ℕ, ◌+◌, ◌<◌, Bool, true, false, List, Option, Some, None, Ok, sym, ◌∙◌, subst, inl, ⊎_elim, arith}
use Rattle.std.specs.Bool.{MatchBool}
use Rattle.std.proofs.lemmas.Bool.{lt-leb}
use Rattle.field.specs.Arithmetic.{Arithmetic}
use Rattle.plan.specs.Coefficients.{Coefficients}
use Rattle.shelf.specs.Table.{Table, Cell, Kept}
use Rattle.shelf.specs.Calls.{Outcome}
use Rattle.shelf.proofs.Settling.{done}
use Rattle.array.specs.Decoding.{Gives, decoded}
use Rattle.array.proofs.Decay.{agrees_still}
use Rattle.array.proofs.Shapes.{fits_place}
use Rattle.opening.specs.Words.{word_at, ReadCell, ReadPlace, ReadsPlace, GivesWord, Given}
use Rattle.opening.specs.Agreement.{Agreed, refuses_test, Tested, TestsExactly}

module _ (k : Arithmetic) (x : Coefficients) (p : ℕ) (s t : Table) (cells : List (Option ℕ)) (h : ReadPlace p (x.n + x.m) s t cells) (bays : s.bays ≡ x.n + x.m) (there : p < s.places) where
  -- a cell at the end asks of a vector no more than the word that was read,
  gives_after : (b : ℕ) (v : List ℕ) (before after : Cell) (c : Option ℕ) → ReadCell before after c → Kept before after → GivesWord k x b v c → Gives k x b v after
  gives_after b v before after None read kept g = subst (Gives k x b v) (sym read) tt
  gives_after b v before after (Some w) read kept g =
      ⊎_elim (λ same. subst (Gives k x b v) (sym (same ∙ read)) g) (λ gone. subst (Gives k x b v) (sym gone) tt) kept

  -- and one at the start no less.
  gives_before : (b : ℕ) (v : List ℕ) (before after : Cell) (c : Option ℕ) → ReadCell before after c → Gives k x b v before → GivesWord k x b v c
  gives_before b v before after None read g = tt
  gives_before b v before after (Some w) read g = subst (Gives k x b v) read g

  given_agreed : Given k x cells → Agreed k x t p
  given_agreed (v, g) = (
    v,
    record {
      vector = g.vector;
      gives = λ b d. gives_after b v (s.cell b p) (t.cell b p) (word_at cells b) (h.each b d) (h.rest.cells b p (omega arith) there (λ z. z)) (g.each b d);
    },
  )

  agreed_given : Agreed k x s p → Given k x cells
  agreed_given (v, g) = (
    v,
    record { vector = g.vector; each = λ b d. gives_before b v (s.cell b p) (t.cell b p) (word_at cells b) (h.each b d) (g.gives b d) },
  )

  answered : (r : Bool) → MatchBool r (Given k x cells) (Given k x cells → ⊥) → MatchBool r (Agreed k x t p) (Agreed k x s p → ⊥)
  answered true given = given_agreed given
  answered false none = λ agreed. none (agreed_given agreed)

module _ {Self : Type 0} (table : Self → Table) (sound : Self → Type 0) (k : Arithmetic) (x : Coefficients) (p : ℕ) (s t : Self) (cells : List (Option ℕ)) (r : Bool) (low : p < (decoded k x (table s)).places) (reads : ReadsPlace table sound p (x.n + x.m) s t cells) (decides : MatchBool r (Given k x cells) (Given k x cells → ⊥)) where
  -- what was read of a place of the array
  read_so : sound s → sound t × Tested k x p (table s) (table t) (Ok r)
  read_so ordered =
      let f = fits_place k x (table s) p low in
      let there : p < (table s).places = (let e = f.own_places in omega arith) in
      let (after, read) = reads.2 ordered (let e = f.bays in omega arith) there in
      (after, record { rest = read.rest; answer = answered k x p (table s) (table t) cells read f.bays there r decides })

  -- So a place of the array is tested,
  pub place_tested : Outcome table sound s t (refuses_test k x p) (Tested k x p) (Ok r)
  place_tested =
      let none : refuses_test k x p (table s) ≡ None = (let e = lt-leb (decoded k x (table s)).places p low in simp e) in
      done (table s) (table t) (sound s) (sound t) (refuses_test k x p (table s)) (Tested k x p) (Ok r) none reads.0 read_so

  -- and a vector that agrees at the end agreed at the start where the cells are the same.
  pub place_exactly : TestsExactly table sound k x p s t (Ok r)
  place_exactly ordered same = by r (read_so ordered).1
    where
      by : (r : Bool) → Tested k x p (table s) (table t) (Ok r) → MatchBool r (Agreed k x (table s) p) (Agreed k x (table s) p → ⊥)
      by true tested =
          let (v, hv) = tested.answer in
          (v, agrees_still k x (table t) (table s) p (λ b d. inl (sym (same b d))) v hv)
      by false tested = tested.answer
