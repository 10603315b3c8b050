-- Sums of numbers that may not be told, one by one.
use Rattle.std.proofs.Common.{◌≡◌, ℕ, ◌+◌, ◌^◌, ◌<◌, ◌≤◌, List, [], ◌∷◌, ◌++◌, length, get_or, take, map, Some, None, Option, refl, ap, ◌∙◌, ⊎_elim, arith}
use Rattle.std.specs.List.{sum}
use Rattle.std.specs.Option.{option_map, option_and_then}
use Rattle.std.proofs.lemmas.Bool.{lt-ltb, le-ltb, cases_lt}
use Rattle.std.proofs.lemmas.List.Sums.{fold_push}
use Rattle.std.proofs.lemmas.List.{take_more, map_push}
use Rattle.tables.specs.declared.cell.Cell.{Cell}
use Rattle.tables.specs.Cells.{told}
use Rattle.tables.specs.Sums.{fitting, plus, all_told, sum_of, total}

-- the last number goes to the end of those before it
all_told_push : (os : List (Option ℕ)) (o : Option ℕ) → all_told (os ++ o ∷ []) ≡ option_and_then (λ ns. option_map (λ n. ns ++ n ∷ []) o) (all_told os)
all_told_push [] None = refl
all_told_push [] (Some n) = refl
all_told_push (None ∷ os) o = refl
all_told_push (Some m ∷ os) o = rw (all_told_push os o) (onto (all_told os) o)
  where
    onto : (a : Option (List ℕ)) (b : Option ℕ) → option_map (λ ns. m ∷ ns) (option_and_then (λ ns. option_map (λ n. ns ++ n ∷ []) b) a) ≡ option_and_then (λ ns. option_map (λ n. ns ++ n ∷ []) b) (option_map (λ ns. m ∷ ns) a)
    onto None b = refl
    onto (Some ns) None = refl
    onto (Some ns) (Some n) = refl

-- a sum that has more than 64 bits never has fewer again
pub fitting_more : (m n : ℕ) → fitting (m + n) ≡ option_and_then (λ k. fitting (k + n)) (fitting m)
fitting_more m n =
    ⊎_elim
    (λ (h : m < 2 ^ 64). rw (lt-ltb m (2 ^ 64) h))
    (λ (h : 2 ^ 64 ≤ m). let g : 2 ^ 64 ≤ m + n = omega arith in rw (le-ltb m (2 ^ 64) h, le-ltb (m + n) (2 ^ 64) g))
    (cases_lt m (2 ^ 64))

-- a sum goes on by the next number
pub sum_push : (os : List (Option ℕ)) (o : Option ℕ) → sum_of (os ++ o ∷ []) ≡ plus (sum_of os) o
sum_push os o = rw (all_told_push os o) (go (all_told os) o)
  where
    nothing : (a : Option ℕ) → None ≡ plus a None
    nothing None = refl
    nothing (Some m) = refl

    go : (a : Option (List ℕ)) (b : Option ℕ) → option_and_then (λ ns. fitting (sum ns)) (option_and_then (λ ns. option_map (λ n. ns ++ n ∷ []) b) a) ≡ plus (option_and_then (λ ns. fitting (sum ns)) a) b
    go None b = refl
    go (Some ns) None = nothing (fitting (sum ns))
    go (Some ns) (Some n) = ap fitting (fold_push (λ a x. a + x) 0 ns n) ∙ fitting_more (sum ns) n

-- so does the sum of the first numbers of a list,
pub sum_more : (os : List (Option ℕ)) (i : ℕ) (d : Option ℕ) → i < length os → sum_of (take (i + 1) os) ≡ plus (sum_of (take i os)) (get_or os i d)
sum_more os i d h = ap sum_of (take_more os i d h) ∙ sum_push (take i os) (get_or os i d)

-- and a total, by a cell
pub total_push : (cs : List Cell) (c : Cell) → total (cs ++ c ∷ []) ≡ plus (total cs) (told c)
total_push cs c = ap sum_of (map_push told cs c) ∙ sum_push (map told cs) (told c)

pub total_more : (cs : List Cell) (i : ℕ) (d : Cell) → i < length cs → total (take (i + 1) cs) ≡ plus (total (take i cs)) (told (get_or cs i d))
total_more cs i d h = ap total (take_more cs i d h) ∙ total_push (take i cs) (get_or cs i d)
