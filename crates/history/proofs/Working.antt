-- The worked history: what its calls do, call by call.
use Rattle.std.proofs.Common.{◌≡◌, ℕ, zero, suc, ◌<◌, ◌≢◌, Bool, true, true≢false, not, ◌||◌, eqb, List, [], ◌∷◌, length, get_or, Some, None, Ok, Err, Option, Result, sym, refl, ◌∙◌, subst, inl, inr, arith}
use Rattle.std.specs.Prelude.{MatchBool, vec_items}
use Rattle.std.specs.List.{list_all, range_with_len}
use Rattle.std.specs.Global.{Vec}
use Rattle.std.proofs.lemmas.Bool.{eqb-true, eq-eqb}
use Rattle.field.specs.Fields.{nibble}
use Rattle.field.specs.LawfulFields as fields
use Rattle.field.specs.Polynomials.{mul_mod, carryless, remainder}
use Rattle.plan.specs.Coefficients.{Coefficients}
use Rattle.plan.specs.Powers.{power}
use Rattle.plan.specs.Rows.{entry, row, dot, Vector, Tells}
use Rattle.plan.proofs.DataRows.{dot-data}
use Rattle.shelf.specs.declared.refusal.Refusal.{Refusal}
use Rattle.shelf.specs.declared.refusal.Refusal.TheVariants.{WrongCount, Lost}
use Rattle.shelf.specs.Refusals.{first_of}
use Rattle.shelf.specs.Table.{Table, blank, holds, WordBelow, Fitting, Kept, Decayed, AllBlank}
use Rattle.shelf.specs.Calls.{refuses_read, refuses_word, refuses_lay, bit, NoCell, Set, Laid}
use Rattle.shelf.proofs.Settling.{undecayed}
use Rattle.array.specs.declared.coded.Array.{Array}
use Rattle.array.specs.Decoding.{decoded, Gives, Agrees, AllowsOne, AllowsMore}
use Rattle.array.specs.Moving.{Becomes, rewritten, Rewritten}
use Rattle.array.specs.Tables.{array_table, ArrayOrder}
use Rattle.array.specs.Changes.{row_words, LaidBelow}
use Rattle.array.proofs.Cells.{not_both, more_blank}
use Rattle.array.proofs.Tests.{all_at, implied}
use Rattle.history.specs.declared.call.Call.{Call}
use Rattle.history.specs.declared.call.Call.TheVariants.{Read, Write, Lay}
use Rattle.history.specs.declared.call.Answer.{Answer}
use Rattle.history.specs.declared.call.Answer.TheVariants.{Bits}
use Rattle.history.specs.Book.{Book, empty, enter, put_all, after_calls}
use Rattle.history.specs.Laws.{Changed, Answered}
use Rattle.history.specs.History.{ArrayHistory}
use Rattle.history.specs.Runs.{Ran, Stands, RunsArray}
use Rattle.history.specs.Worked.{cells, sums, archive, blanked, reduced, worked_answers, Worked}

-- each of three bays
three : (P : ℕ → Type 0) → P 0 → P 1 → P 2 → (b : ℕ) → b < 3 → P b
three P x y z zero d = x
three P x y z (suc zero) d = y
three P x y z (suc (suc zero)) d = z
three P x y z (suc (suc (suc b))) d = absurd (let f : ⊥ = omega arith in f)

-- The cells before the first call, and after each.
abbrev new : Table
new = cells (blank ∷ blank ∷ blank ∷ [])

abbrev laid : Table
laid = cells (holds 4 ∷ holds 9 ∷ holds 13 ∷ [])

abbrev written : Table
written = cells (holds 1 ∷ blank ∷ holds 8 ∷ [])

abbrev left : Table
left = cells (blank ∷ blank ∷ holds 8 ∷ [])

-- the place is the only one
one_place : (p : ℕ) → p < 1 → p ≡ 0
one_place p d = omega arith

-- The first cells and the last keep the bounds of a shelf,
new_fits : Fitting new
new_fits = record { bays = omega arith; places = omega arith; limit = omega arith; words = λ b p d there. three (λ b. WordBelow 16 (new.cell b p)) tt tt tt b d }

left_fits : Fitting left
left_fits = record { bays = omega arith; places = omega arith; limit = omega arith; words = λ b p d there. three (λ b. WordBelow 16 (left.cell b p)) tt tt (omega arith) b d }

-- and the first are blank.
new_blank : AllBlank new
new_blank b p d there = three (λ b. new.cell b p ≡ blank) refl refl refl b d

-- no call is refused
changed : (o : Option Refusal) (s t : Table) (C : Type 0) → o ≡ None → C → Changed o s t C
changed o s t C e h = subst (λ o. Changed o s t C) (sym e) h

answered : {A : Type 0} (o : Option Refusal) (r : Result A Refusal) (C : Type 0) → o ≡ None → C → Answered o r C
answered o r C e h = subst (λ o. Answered o r C) (sym e) h

lay_passes : refuses_lay 0 (4 ∷ 9 ∷ []) (decoded nibble sums new) ≡ None
unfolding decoded
lay_passes = refl

write_passes : refuses_word 0 0 1 (decoded nibble sums laid) ≡ None
unfolding decoded
write_passes = refl

read_passes : (b : ℕ) → b < 2 → refuses_read b 0 (decoded nibble sums written) ≡ None
unfolding decoded
read_passes zero d = refl
read_passes (suc zero) d = refl
read_passes (suc (suc b)) d = absurd (let f : ⊥ = omega arith in f)

read_left_passes : refuses_read 0 0 (decoded nibble sums left) ≡ None
unfolding decoded
read_left_passes = refl

-- the words of all bays
words_are : row_words nibble sums (4 ∷ 9 ∷ []) ≡ 4 ∷ 9 ∷ 13 ∷ []
unfolding row entry dot power mul_mod carryless remainder
words_are = refl

-- a bit of seven
seven : (b : ℕ) → b < 3 → bit 7 b ≡ true
seven b d = three (λ b. bit 7 b ≡ true) refl refl refl b d

-- A vector of two codes agrees with cells where each row gives what they hold.
two_codes : (a b : ℕ) → a < 16 → b < 16 → Vector nibble 2 (a ∷ b ∷ [])
two_codes a b ha hb = record { long = refl; below = entries }
  where
    entries : (j : ℕ) → j < 2 → get_or (a ∷ b ∷ []) j 0 < 16
    entries zero d = ha
    entries (suc zero) d = hb
    entries (suc (suc j)) d = absurd (let f : ⊥ = omega arith in f)

agrees_laid : Agrees nibble sums laid 0 (4 ∷ 9 ∷ [])
unfolding row entry dot power mul_mod carryless remainder
agrees_laid = record { vector = two_codes 4 9 (omega arith) (omega arith); gives = λ b d. three (λ b. Gives nibble sums b (4 ∷ 9 ∷ []) (laid.cell b 0)) refl refl refl b d }

agrees_written : Agrees nibble sums written 0 (1 ∷ 9 ∷ [])
unfolding row entry dot power mul_mod carryless remainder
agrees_written = record { vector = two_codes 1 9 (omega arith) (omega arith); gives = λ b d. three (λ b. Gives nibble sums b (1 ∷ 9 ∷ []) (written.cell b 0)) refl tt refl b d }

agrees_left : (p : ℕ) → Agrees nibble sums left p (1 ∷ 9 ∷ [])
unfolding row entry dot power mul_mod carryless remainder
agrees_left p = record { vector = two_codes 1 9 (omega arith) (omega arith); gives = λ b d. three (λ b. Gives nibble sums b (1 ∷ 9 ∷ []) (left.cell b p)) tt tt refl b d }

agrees_other : (p : ℕ) → Agrees nibble sums left p (0 ∷ 8 ∷ [])
unfolding row entry dot power mul_mod carryless remainder
agrees_other p = record { vector = two_codes 0 8 (omega arith) (omega arith); gives = λ b d. three (λ b. Gives nibble sums b (0 ∷ 8 ∷ []) (left.cell b p)) tt tt refl b d }

-- what the row of a bay gives on vectors that are written out
gives_eight : dot nibble (row sums 1) (0 ∷ 8 ∷ []) ≡ 8
unfolding row entry dot power mul_mod carryless remainder
gives_eight = refl

gives_four : dot nibble (row sums 0) (4 ∷ 9 ∷ []) ≡ 4
unfolding row entry dot power mul_mod carryless remainder
gives_four = refl

gives_nine : dot nibble (row sums 1) (1 ∷ 9 ∷ []) ≡ 9
unfolding row entry dot power mul_mod carryless remainder
gives_nine = refl

gives_one : dot nibble (row sums 0) (1 ∷ 9 ∷ []) ≡ 1
unfolding row entry dot power mul_mod carryless remainder
gives_one = refl

gives_none : dot nibble (row sums 0) (0 ∷ 8 ∷ []) ≡ 0
unfolding row entry dot power mul_mod carryless remainder
gives_none = refl

-- Each cell that is filled allows its word alone.
laid_one : AllowsOne nibble sums laid 0 0 4
laid_one = ((4 ∷ 9 ∷ [], agrees_laid, gives_four), λ u (v, h, is). sym is ∙ sym (h.gives 0 (omega arith)))

-- With 1 before it, 9 alone has the check 8: by trying all codes.
fits_eight : ℕ → Bool
fits_eight b = not (eqb 8 (dot nibble (row sums 2) (1 ∷ b ∷ []))) || eqb b 9

all_fit : list_all fits_eight (range_with_len 0 16) ≡ true
unfolding fits_eight row entry dot power mul_mod carryless remainder
all_fit = refl

nine_alone : (b : ℕ) → b < 16 → 8 ≡ dot nibble (row sums 2) (1 ∷ b ∷ []) → b ≡ 9
unfolding fits_eight
nine_alone b low e =
    eqb-true b 9 (implied (eqb 8 (dot nibble (row sums 2) (1 ∷ b ∷ []))) (eqb b 9) (all_at fits_eight 0 16 b all_fit (omega arith) (omega arith)) (eq-eqb 8 _ e))

-- So the read of the blank cell of bay 1 is told.
only_nine : (v : List ℕ) → Agrees nibble sums written 0 v → get_or v 1 0 ≡ 9
only_nine [] h = absurd (let e = h.vector.long in let f : ⊥ = omega arith in f)
only_nine (a ∷ []) h = absurd (let e = h.vector.long in let f : ⊥ = omega arith in f)
only_nine (a ∷ b ∷ []) h =
    let first : a ≡ 1 = sym (h.gives 0 (omega arith) ∙ dot-data nibble (fields.nibble).laws sums 0 (a ∷ b ∷ []) (omega arith) h.vector) in
    nine_alone b (h.vector.below 1 (omega arith)) (subst (λ a. 8 ≡ dot nibble (row sums 2) (a ∷ b ∷ [])) first (h.gives 2 (omega arith)))
only_nine (a ∷ b ∷ c ∷ v) h = absurd (let e = h.vector.long in let f : ⊥ = omega arith in f)

written_one : AllowsOne nibble sums written 1 0 9
written_one = (
  (1 ∷ 9 ∷ [], agrees_written, gives_nine),
  λ u (v, h, is). sym is ∙ dot-data nibble (fields.nibble).laws sums 1 v (omega arith) h.vector ∙ only_nine v h,
)

-- And with the check alone left, both words are open,
left_more : (p b : ℕ) → b < 2 → AllowsMore nibble sums left b p
left_more p zero d = (1, 0, (1 ∷ 9 ∷ [], agrees_left p, gives_one), (0 ∷ 8 ∷ [], agrees_other p, gives_none), λ e. let f : ⊥ = omega arith in f)
left_more p (suc zero) d = (9, 8, (1 ∷ 9 ∷ [], agrees_left p, gives_nine), (0 ∷ 8 ∷ [], agrees_other p, gives_eight), λ e. let f : ⊥ = omega arith in f)
left_more p (suc (suc b)) d = absurd (let f : ⊥ = omega arith in f)

-- so no cell of the array holds a word at the end, whatever the book has.
left_bays : (decoded nibble sums left).bays ≡ 2
unfolding decoded
left_bays = refl

abbrev Standing : Book → Array Table Coefficients → Type 0
Standing book a = Stands (array_table (λ t. t) nibble (λ x. x)) (ArrayOrder (λ t. t) Fitting nibble (λ x. x)) book a

left_stands : (book : Book) → Standing book reduced
left_stands book = (
  (left_fits, λ p there. (1 ∷ 9 ∷ [], agrees_left p)),
  λ b p w d there e. absurd (not_both _ w (more_blank nibble (fields.nibble).laws sums left p b (let n = left_bays in omega arith) (left_more p b (let n = left_bays in omega arith))) e),
)

-- What the lay does below: it fills each cell of the place,
laid_below : LaidBelow nibble sums 0 (4 ∷ 9 ∷ []) new laid 3
laid_below = record {
  low = 7;
  laid = subst (λ ws. Laid 0 ws new laid 7) (sym words_are) (record {
    rest = record { shape = record { bays = refl; places = refl; limit = refl }; stops = λ b d e. refl; cells = λ b p d there out. absurd (out (one_place p there)) };
    set = λ b d. three (λ b. Set (get_or (4 ∷ 9 ∷ 13 ∷ []) b 0) (laid.cell b 0)) (inl refl) (inl refl) (inl refl) b d;
    filled = λ b d e. three (λ b. laid.cell b 0 ≢ blank) (λ e. not_both _ 4 e refl) (λ e. not_both _ 9 e refl) (λ e. not_both _ 13 e refl) b d;
    clear = λ b d e. absurd (true≢false (sym (seven b d) ∙ e));
    others = omega arith;
  });
  told = told;
  others = omega arith;
}
  where
    told : (j : ℕ) → j < 2 → MatchBool (bit 3 j) (Tells nibble sums (bit 7) j) (Tells nibble sums (bit 7) j → ⊥)
    told zero d = λ v hv zeros. zeros 0 (omega arith) refl
    told (suc zero) d = λ v hv zeros. zeros 1 (omega arith) refl
    told (suc (suc j)) d = absurd (let f : ⊥ = omega arith in f)

-- the write rewrites bay 0 and moves the check, while the cell of bay 1 goes blank,
rewritten_below : Rewritten nibble sums 0 0 4 1 laid written
unfolding power mul_mod carryless remainder
rewritten_below = record {
  rest = record { shape = record { bays = refl; places = refl; limit = refl }; stops = λ b d e. refl; cells = λ b p d there out. absurd (out (one_place p there)) };
  cells = λ b d. three (λ b. Becomes (rewritten nibble sums 0 4 1 b) (laid.cell b 0) (written.cell b 0)) (inl refl) (inr refl) (inl refl) b d;
}

-- and in the first read the cell of bay 0 goes blank.
left_below : Decayed NoCell written left
left_below = record {
  shape = record { bays = refl; places = refl; limit = refl };
  stops = λ b d e. refl;
  cells = λ b p d there out. three (λ b. Kept (written.cell b p) (left.cell b p)) (inr refl) (inl refl) (inl refl) b d;
}

-- All of it, for any calls that are these, from any book.
module _ (words : Vec ℕ) (are : vec_items words ≡ 4 ∷ 9 ∷ []) where
  abbrev these : List Call
  these = Lay 0 words ∷ Write 0 0 1 ∷ Read 1 0 ∷ Read 0 0 ∷ []

  lay_passes_so : refuses_lay 0 (vec_items words) (decoded nibble sums new) ≡ None
  lay_passes_so = subst (λ ws. refuses_lay 0 ws (decoded nibble sums new) ≡ None) (sym are) lay_passes

  module _ (book : Book) where
    abbrev laid_book : Book
    laid_book = enter (Lay 0 words) (Bits (Ok 3)) book

    -- the book after the lay
    entry_of : (b w : ℕ) → put_all 0 (4 ∷ 9 ∷ []) book b 0 ≡ Some w → laid_book b 0 ≡ Some w
    entry_of b w e = subst (λ ws. put_all 0 ws book b 0 ≡ Some w) (sym are) e

    made : ArrayHistory (λ t. t) nibble sums book blanked these worked_answers reduced
    made = (
      archive (holds 4 ∷ holds 9 ∷ holds 13 ∷ []),
      changed _ new laid _ lay_passes_so (subst (λ ws. LaidBelow nibble sums 0 ws new laid 3) (sym are) laid_below),
      answered {A = ℕ} _ (Ok 3) _ lay_passes_so tt,
      (
        archive (holds 1 ∷ blank ∷ holds 8 ∷ []),
        changed _ laid written _ write_passes (4, laid_one, rewritten_below),
        answered {A = Unit {0}} _ (Ok tt) _ write_passes (4, entry_of 0 4 refl, laid_one),
        (
          reduced,
          changed _ written left _ (read_passes 1 (omega arith)) left_below,
          answered {A = ℕ} _ (Ok 9) _ (read_passes 1 (omega arith)) (entry_of 1 9 refl, written_one),
          (
            reduced,
            changed _ left left _ read_left_passes (undecayed NoCell left),
            answered {A = ℕ} _ (Err Lost) _ read_left_passes (refl, left_more 0 0 (omega arith)),
            refl,
          ),
        ),
      ),
    )

  -- from any book, what is made, and a book and a state that stand after it
  abbrev FromAny : Type 0
  FromAny = (reduced.plan ≡ blanked.plan) × ((book : Book) → Standing book blanked → ArrayHistory (λ t. t) nibble sums book blanked these worked_answers reduced × Standing (after_calls enter book these worked_answers) reduced)

  from_any : FromAny
  from_any = (refl, λ book stands. (made book, left_stands (after_calls enter book these worked_answers)))

  law : (answers : List Answer) → length answers ≡ 4 → RunsArray (λ t. t) Fitting nibble (λ x. x) blanked reduced these answers worked_answers (Ok tt)
  law answers e =
      subst (λ n. Ran (first_of ((not (eqb 4 n), WrongCount) ∷ [])) blanked reduced answers worked_answers (Ok tt) FromAny) (sym e)
      (refl, from_any)

  pub worked : (calls : List Call) → calls ≡ these → Worked calls
  worked calls e = subst Worked (sym e) ((words, (are, refl)), new_fits, new_blank, (λ done sound blank. made empty), law)
