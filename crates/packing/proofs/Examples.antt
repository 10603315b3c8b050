-- What some words mean.
use Rattle.std.proofs.Common.{◌≡◌, [], ◌∷◌, Some, None, refl}
use Rattle.packing.specs.declared.packing.Packing.TheVariants.{Halves, Bytes, Pairs}
use Rattle.packing.specs.Packed.{packed, length_words}
use Rattle.packing.specs.Unpacked.{unpacked, file_words}

halves_of_one : packed Halves (0x5a ∷ []) ≡ 1 ∷ 0 ∷ 0 ∷ 0 ∷ 0 ∷ 0 ∷ 0 ∷ 0 ∷ 10 ∷ 5 ∷ []
halves_of_one = refl

bytes_of_two : packed Bytes (65 ∷ 66 ∷ []) ≡ 2 ∷ 0 ∷ 0 ∷ 0 ∷ 65 ∷ 66 ∷ []
bytes_of_two = refl

pairs_of_three : packed Pairs (1 ∷ 2 ∷ 3 ∷ []) ≡ 3 ∷ 0 ∷ 513 ∷ 3 ∷ []
pairs_of_three = refl

no_bytes : packed Pairs [] ≡ 0 ∷ 0 ∷ []
no_bytes = refl

lengths : (length_words Halves ∷ length_words Bytes ∷ length_words Pairs ∷ []) ≡ 8 ∷ 4 ∷ 2 ∷ []
lengths = refl

three_back : unpacked Pairs (3 ∷ 0 ∷ 513 ∷ 3 ∷ 99 ∷ []) ≡ Some (1 ∷ 2 ∷ 3 ∷ [])
three_back = refl

words_of_three : file_words Pairs (3 ∷ 0 ∷ []) ≡ Some 4
words_of_three = refl

too_few : unpacked Pairs (3 ∷ 0 ∷ 513 ∷ []) ≡ None
too_few = refl

out_of_range : unpacked Bytes (1 ∷ 0 ∷ 0 ∷ 0 ∷ 256 ∷ []) ≡ None
out_of_range = refl

-- a word that is out of range after the file is no fault
after_the_file : unpacked Bytes (0 ∷ 0 ∷ 0 ∷ 0 ∷ 256 ∷ []) ≡ Some []
after_the_file = refl
