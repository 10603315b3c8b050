-- How rows are read one after another.
use Rattle.std.proofs.Common.{◌≡◌, ℕ, suc, ◌+◌, ◌-◌, ◌<◌, ◌⊎◌, List, [], ◌∷◌, ◌++◌, Ok, Err, refl, ap, ◌∙◌, inl, inr, arith}
use mathlib.Core.List.{append_assoc}
use Rattle.description.specs.Lines.{Said}
use Rattle.description.specs.Outcome.{following}
use Rattle.description.specs.Reading.{PartOf, row_in, rows_in}
use Rattle.description.specs.declared.fault.Fault.{Fault}
use Rattle.description.specs.declared.fault.Fault.TheVariants.{Memory}

-- rows in front of those that are read
abbrev pub behind : List (List ℕ) → PartOf (List (List ℕ)) → PartOf (List (List ℕ))
behind front read = following read (λ y. Ok (front ++ y.0, y.1))

-- a row in front of those read is one more row behind the front
regroup : (front : List (List ℕ)) (row : List ℕ) (read : PartOf (List (List ℕ))) → behind front (following read (λ y. Ok (row ∷ y.0, y.1))) ≡ behind (front ++ row ∷ []) read
regroup front row (Ok y) = rw append_assoc refl
regroup front row (Err e) = refl

-- where rows are left to read, the first of them is read first
first_row : (d n i : ℕ) (ls : List Said) → i < n → rows_in d (n - i) ls ≡ following (row_in d ls) (λ x. following (rows_in d (n - (i + 1)) x.1) (λ y. Ok (x.0 ∷ y.0, y.1)))
first_row d n i ls lt = let e : n - i ≡ suc (n - (i + 1)) = omega arith in rw e refl

-- a row that is read goes to the end of those in front
pub row_goes_on : (d n i : ℕ) (ls after : List Said) (front : List (List ℕ)) (row : List ℕ) (due : PartOf (List (List ℕ))) → i < n → row_in d ls ≡ Ok (row, after) → due ≡ behind front (rows_in d (n - i) ls) → due ≡ behind (front ++ row ∷ []) (rows_in d (n - (i + 1)) after)
row_goes_on d n i ls after front row due lt e so_far =
    so_far ∙ ap (behind front) (first_row d n i ls lt ∙ ap (λ r. following r (λ x. following (rows_in d (n - (i + 1)) x.1) (λ y. Ok (x.0 ∷ y.0, y.1)))) e) ∙ regroup front row (rows_in d (n - (i + 1)) after)

-- a row that is at fault is the fault of all
pub row_fails : (d n i : ℕ) (ls : List Said) (front : List (List ℕ)) (fault : Fault) (due : PartOf (List (List ℕ))) → i < n → (fault ≡ Memory) ⊎ (row_in d ls ≡ Err fault) → due ≡ behind front (rows_in d (n - i) ls) → (fault ≡ Memory) ⊎ (due ≡ Err fault)
row_fails d n i ls front fault due lt (inl m) so_far = inl m
row_fails d n i ls front fault due lt (inr e) so_far =
    inr (so_far ∙ ap (behind front) (first_row d n i ls lt ∙ ap (λ r. following r (λ x. following (rows_in d (n - (i + 1)) x.1) (λ y. Ok (x.0 ∷ y.0, y.1)))) e))
