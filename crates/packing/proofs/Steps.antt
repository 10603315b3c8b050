-- One step of the loops that pack and unpack.
use Rattle.std.proofs.Common.{◌≡◌, ℕ, suc, ◌+◌, ◌*◌, ◌<◌, List, [], ◌∷◌, ◌++◌, length, get_or, drop, Some, None, Option, refl, sym, ap, ◌∙◌, arith, append_assoc}
use Rattle.std.specs.Option.{option_map}
use Rattle.std.proofs.lemmas.List.{length-drop, drop-drop, get_or-drop}
use Rattle.packing.specs.declared.packing.Packing.{Packing}
use Rattle.packing.specs.Packed.{pairs}
use Rattle.packing.specs.Unpacked.{byte_at, bytes_from}

-- the first two bytes are in the first word; a missing one counts as 0
pairs_first : (xs : List ℕ) → 0 < length xs → pairs xs ≡ (get_or xs 0 0 + 256 * get_or xs 1 0) ∷ pairs (drop 2 xs)
pairs_first [] h = absurd (omega arith)
pairs_first (a ∷ []) h = let e : a ≡ a + 256 * 0 = omega arith in ap (λ x. x ∷ []) e
pairs_first (a ∷ b ∷ xs) h = refl

-- so are bytes 2i and 2i + 1 in word i
pub pairs_more : (xs : List ℕ) (i : ℕ) → 2 * i < length xs → pairs (drop (2 * i) xs) ≡ (get_or xs (2 * i) 0 + 256 * get_or xs (2 * i + 1) 0) ∷ pairs (drop (2 * (i + 1)) xs)
pairs_more xs i h =
    let long : 0 < length (drop (2 * i) xs) = omega (arith, length-drop (2 * i) xs) in
    let e : 2 * i + 0 ≡ 2 * i = omega arith in
    let f : 2 * i + 2 ≡ 2 * (i + 1) = omega arith in
    pairs_first (drop (2 * i) xs) long
    ∙ rw (get_or-drop (2 * i) xs 0 0, get_or-drop (2 * i) xs 1 0, drop-drop 2 (2 * i) xs, e, f)

-- a byte that is there goes to the end of those so far
pub bytes_step : (p : Packing) (ws : List ℕ) (i n m b : ℕ) (bs : List ℕ) → n ≡ m + 1 → byte_at p ws i ≡ Some b → option_map (λ ys. bs ++ ys) (bytes_from p ws i n) ≡ option_map (λ ys. (bs ++ b ∷ []) ++ ys) (bytes_from p ws (i + 1) m)
bytes_step p ws i n m b bs e h = let s : n ≡ suc m = omega arith in rw (s, h) (past (bytes_from p ws (i + 1) m))
  where
    past : (o : Option (List ℕ)) → option_map (λ ys. bs ++ ys) (option_map (λ ys. b ∷ ys) o) ≡ option_map (λ ys. (bs ++ b ∷ []) ++ ys) o
    past None = refl
    past (Some ys) = ap Some (sym (append_assoc bs (b ∷ []) ys))
