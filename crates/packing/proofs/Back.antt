-- Unpacking what was packed gives it back.
use Rattle.std.proofs.Common.{◌≡◌, ℕ, zero, suc, ◌+◌, ◌^◌, ◌<◌, ◌≤◌, List, ◌++◌, length, get_or, take, drop, Some, refl, sym, ap, ◌∙◌, arith}
use Rattle.std.proofs.lemmas.List.{drop_more, take_all}
use Rattle.packing.specs.declared.packing.Packing.{Packing}
use Rattle.packing.specs.declared.packing.Packing.TheVariants.{Halves, Bytes, Pairs}
use Rattle.packing.specs.Packed.{words_for, length_words, length_bytes, packed}
use Rattle.packing.specs.Unpacked.{byte_at, bytes_from, number_of, file_length, unpacked}
use Rattle.packing.specs.Laws.{WordsOf}
use Rattle.packing.proofs.Words.{Small, byte_in, words_long, words_range}

-- where each byte of a list is found in the words, any run of them is
run_in : (p : Packing) (ws bs : List ℕ) → ((k : ℕ) → k < length bs → byte_at p ws k ≡ Some (get_or bs k 0)) → (i n : ℕ) → i + n ≤ length bs → bytes_from p ws i n ≡ Some (take n (drop i bs))
run_in p ws bs each i zero h = refl
run_in p ws bs each i (suc n) h =
    rw (each i (omega arith), run_in p ws bs each (i + 1) n (omega arith), drop_more bs i 0 (omega arith))

-- four bytes write the length
length_written : (n : ℕ) → n < 2 ^ 32 → number_of (length_bytes n) ≡ n
length_written n h = omega arith

-- the bytes of a length are bytes
length_small : (n : ℕ) (bs : List ℕ) → Small bs → Small (length_bytes n ++ bs)
length_small n bs small zero = omega arith
length_small n bs small (suc zero) = omega arith
length_small n bs small (suc (suc zero)) = omega arith
length_small n bs small (suc (suc (suc zero))) = omega arith
length_small n bs small (suc (suc (suc (suc k)))) = small k

-- the words of a length and of what follows it are as many as both together
pub words_add : (p : Packing) (n : ℕ) → words_for p (4 + n) ≡ length_words p + words_for p n
words_add Halves n = omega arith
words_add Bytes n = refl
words_add Pairs n = omega arith

module _ (p : Packing) (bs : List ℕ) (bytes : Small bs) (short : length bs < 2 ^ 32) where
  -- the file with its length
  abbrev whole : List ℕ
  whole = length_bytes (length bs) ++ bs

  small : Small whole
  small = length_small (length bs) bs bytes

  -- its first four bytes give the length,
  length_back : (more : List ℕ) → file_length p (packed p bs ++ more) ≡ Some (length bs)
  length_back more =
      rw (run_in p (packed p bs ++ more) whole (byte_in p whole more small) 0 4 (omega arith)) (ap Some (length_written (length bs) short))

  -- and the others the file
  file_back : (more : List ℕ) → unpacked p (packed p bs ++ more) ≡ Some bs
  file_back more =
      rw (length_back more, run_in p (packed p bs ++ more) whole (byte_in p whole more small) 4 (length bs) (omega arith)) (ap Some (take_all (length bs) bs (omega arith)))

  packed_long : length (packed p bs) ≡ length_words p + words_for p (length bs)
  packed_long = let e : length whole ≡ 4 + length bs = omega arith in words_long p whole ∙ rw e (words_add p (length bs))

  pub words_of : WordsOf p bs (packed p bs)
  words_of = record {
    in_range = words_range p whole small;
    counted = λ more. rw (length_back more) (ap Some (sym packed_long));
    unpacked_again = file_back;
  }
