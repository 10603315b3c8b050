-- What a total says of the cells.
use Rattle.std.proofs.Common.{◌≡◌, ℕ, zero, suc, ◌*◌, ◌-◌, ◌^◌, ◌<◌, ◌≤◌, true, false, List, [], ◌∷◌, length, get_or, take, map, Some, None, Option, refl, sym, ap, ◌∙◌, subst, ⊎_elim, arith}
use Rattle.std.specs.List.{sum, All}
use Rattle.std.specs.Option.{IfSome, MatchOption, SomeIff, option_map, option_and_then}
use Rattle.std.proofs.lemmas.Bool.{lt-ltb, le-ltb, cases_lt}
use Rattle.std.proofs.lemmas.List.{length-map, get_or-map, take_all}
use Rattle.std.proofs.lemmas.List.Sums.{sum_by-le}
use Rattle.tables.specs.declared.cell.Cell.{Cell}
use Rattle.tables.specs.declared.cell.Cell.TheVariants.{Told, Lost, Torn}
use Rattle.tables.specs.Cells.{told, word, IsTold}
use Rattle.tables.specs.Sums.{fitting, all_told, total, IsTotal}

-- a word that is told in 32 bits has 32 bits, and so has what is taken for one that is not
pub small_word : (c : Cell) → IfSome (told c) (λ w. w < 2 ^ 32) → word c < 2 ^ 32
small_word (Told w) h = h
small_word Lost h = omega arith
small_word Torn h = omega arith

-- so words of 32 bits have no larger sum than this
sum_small : (cs : List Cell) → ((k : ℕ) → k < length cs → word (get_or cs k (Told 0)) < 2 ^ 32) → sum (map word cs) ≤ length cs * (2 ^ 32 - 1)
sum_small cs small = rw length-map at (sum_by-le (λ x. x) (2 ^ 32 - 1) (map word cs) each)
  where
    each : All (λ x. x ≤ 2 ^ 32 - 1) (map word cs)
    each k d h =
        let l : k < length cs = omega (arith, length-map cs word) in
        let s = small k l in
        rw (get_or-map word cs k (Told 0) d l) (omega arith)

-- the cells are all told just where their words are found
abbrev TellsAll : List Cell → Option (List ℕ) → Type 0
TellsAll cs o = MatchOption o (All IsTold cs → ⊥) (λ ns. All IsTold cs × (ns ≡ map word cs))

all_cells : (cs : List Cell) → TellsAll cs (all_told (map told cs))
all_cells [] = (λ k d h. absurd (omega arith), refl)
all_cells (Lost ∷ cs) = λ all. let e : false ≡ true = all 0 Lost (omega arith) in cc
all_cells (Torn ∷ cs) = λ all. let e : false ≡ true = all 0 Lost (omega arith) in cc
all_cells (Told w ∷ cs) = go (all_told (map told cs)) (all_cells cs)
  where
    go : (o : Option (List ℕ)) → TellsAll cs o → TellsAll (Told w ∷ cs) (option_map (λ ns. w ∷ ns) o)
    go None none = λ all. none (λ k d h. all (suc k) d (omega arith))
    go (Some ns) all = (more, ap (λ ys. w ∷ ys) all.1)
      where
        more : All IsTold (Told w ∷ cs)
        more zero d h = refl
        more (suc k) d h = all.0 k d (omega arith)

-- the sum of those words, if it fits, is the total
sum_iff : (cs : List Cell) → SomeIff (total cs) (All IsTold cs × (sum (map word cs) < 2 ^ 64)) (sum (map word cs))
sum_iff cs = go (all_told (map told cs)) (all_cells cs)
  where
    go : (o : Option (List ℕ)) → TellsAll cs o → SomeIff (option_and_then (λ ns. fitting (sum ns)) o) (All IsTold cs × (sum (map word cs) < 2 ^ 64)) (sum (map word cs))
    go None none = λ both. none both.0
    go (Some ns) all =
        rw all.1
        (⊎_elim
        (λ (h : sum (map word cs) < 2 ^ 64). rw (lt-ltb (sum (map word cs)) (2 ^ 64) h) ((all.0, h), refl))
        (λ (h : 2 ^ 64 ≤ sum (map word cs)). rw (le-ltb (sum (map word cs)) (2 ^ 64) h) (λ both. let l = both.1 in let v : ⊥ = omega arith in v))
        (cases_lt (sum (map word cs)) (2 ^ 64)))

-- once all cells are counted, what is counted is their total
pub is_total : (cs : List Cell) (r : Option ℕ) (i : ℕ) → length cs ≤ i → r ≡ total (take i cs) → ((k : ℕ) → k < i → word (get_or cs k (Told 0)) < 2 ^ 32) → IsTotal cs r
is_total cs r i all e small =
    let same : r ≡ total cs = e ∙ ap total (take_all i cs all) in
    let most = sum_small cs (λ k h. small k (omega arith)) in
    record {
      sum_told = subst (λ (o : Option ℕ). SomeIff o (All IsTold cs × (sum (map word cs) < 2 ^ 64)) (sum (map word cs))) (sym same) (sum_iff cs);
      fits = λ h. omega arith;
    }
