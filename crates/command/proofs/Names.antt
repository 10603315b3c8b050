-- How a match on a text tells one text from another: by its length and then its bytes.
use Rattle.std.proofs.Common.{◌≡◌, ℕ, suc, ◌+◌, ◌<◌, ◌≤◌, Bool, true, false, ◌&&◌, List, [], ◌∷◌, length, get_or, drop, eqb, zero-add, arith, ⊎_elim, refl, sym, ◌∙◌}
use Rattle.std.specs.Str.{bytes_eq}
use Rattle.std.proofs.lemmas.Bool.{cases_Bool, and_parts, eqb-true, cases_lt, ne_eqb, eq-eqb}
use Rattle.std.proofs.lemmas.Bool.Decides.{nat_tests}
use Rattle.std.proofs.lemmas.List.{drop_all, drop_more}

-- the bytes of p stand in s, from index i on
abbrev pub has_bytes : List ℕ → ℕ → List ℕ → Bool
has_bytes s i [] = true
has_bytes s i (c ∷ p) = eqb (get_or s i 0) c && has_bytes s (i + 1) p

-- two equal tests change places behind a third
reorder : (t u v w : Bool) → t ≡ u → (v && (t && w)) ≡ (u && (v && w))
reorder t u true w e = rw e
reorder t true false w e = refl
reorder t false false w e = refl

-- the same of the text from i on, byte by byte
from_on : (s p : List ℕ) (i : ℕ) → i ≤ length s → bytes_eq (drop i s) p ≡ (eqb (length s) (i + length p) && has_bytes s i p)
from_on s [] i le =
    ⊎_elim
    (λ (lt : i < length s). rw (drop_more s i 0 lt, ne_eqb (length s) (i + 0) (λ e. omega arith)))
    (λ (ge : length s ≤ i). rw (drop_all i s ge, eq-eqb (length s) (i + 0) (omega arith)))
    (cases_lt i (length s))
from_on s (c ∷ p) i le =
    ⊎_elim
    (λ (lt : i < length s). rw (drop_more s i 0 lt, from_on s p (i + 1) (omega arith)) (reorder _ _ (eqb (get_or s i 0) c) (has_bytes s (i + 1) p) (grind (arith, nat_tests))))
    (λ (ge : length s ≤ i). rw (drop_all i s ge, ne_eqb (length s) (i + suc (length p)) (λ e. omega arith)))
    (cases_lt i (length s))

-- a test of two texts is a test of the length and of each byte
pub bytes_eq_reads : (s p : List ℕ) → bytes_eq s p ≡ (eqb (length s) (length p) && has_bytes s 0 p)
bytes_eq_reads s p = rw zero-add at (from_on s p 0 (omega arith))

-- a text is no other where its length or one of its bytes differs
pub differs : (s p : List ℕ) → (length s ≡ length p → has_bytes s 0 p ≡ true → ⊥) → bytes_eq s p ≡ false
differs s p h =
    ⊎_elim
    (λ (e : bytes_eq s p ≡ true). let both = and_parts _ _ (sym (bytes_eq_reads s p) ∙ e) in absurd (h (eqb-true _ _ both.0) both.1))
    (λ (e : bytes_eq s p ≡ false). e)
    (cases_Bool (bytes_eq s p))
