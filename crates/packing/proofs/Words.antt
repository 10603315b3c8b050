-- Which word holds a byte of what is packed.
use Rattle.std.proofs.Common.{◌≡◌, ℕ, zero, suc, ◌+◌, ◌*◌, ◌/◌, ◌%◌, ◌<◌, List, [], ◌∷◌, ◌++◌, length, get_or, Some, refl, ap, ◌∙◌, ⊎_elim, arith}
use Rattle.std.specs.List.{slice_get, All}
use Rattle.std.proofs.lemmas.Bool.{lt-ltb, eq-eqb, ne_eqb, cases_eq}
use Rattle.std.proofs.lemmas.List.{get_or_default}
use Rattle.packing.specs.declared.packing.Packing.{Packing}
use Rattle.packing.specs.declared.packing.Packing.TheVariants.{Halves, Bytes, Pairs}
use Rattle.packing.specs.Packed.{limit, halves, pairs, in_words, words_for}
use Rattle.packing.specs.Unpacked.{below, byte_at}

-- each is a byte; past the end of a list a 0 stands
abbrev pub Small : List ℕ → Type 0
Small bs = (k : ℕ) → get_or bs k 0 < 256

-- the low half of byte i is word 2i,
low_half : (bs more : List ℕ) (i : ℕ) → i < length bs → slice_get (halves bs ++ more) (2 * i) ≡ Some (get_or bs i 0 % 16)
low_half [] more i h = absurd (omega arith)
low_half (b ∷ bs) more zero h = refl
low_half (b ∷ bs) more (suc i) h = let e : 2 * suc i ≡ suc (suc (2 * i)) = omega arith in rw e (low_half bs more i (omega arith))

-- the high half is the word after it,
high_half : (bs more : List ℕ) (i : ℕ) → i < length bs → slice_get (halves bs ++ more) (2 * i + 1) ≡ Some (get_or bs i 0 / 16)
high_half [] more i h = absurd (omega arith)
high_half (b ∷ bs) more zero h = refl
high_half (b ∷ bs) more (suc i) h = let e : 2 * suc i + 1 ≡ suc (suc (2 * i + 1)) = omega arith in rw e (high_half bs more i (omega arith))

-- a byte that is a word is at its own position,
own_word : (bs more : List ℕ) (i : ℕ) → i < length bs → slice_get (bs ++ more) i ≡ Some (get_or bs i 0)
own_word [] more i h = absurd (omega arith)
own_word (b ∷ bs) more zero h = refl
own_word (b ∷ bs) more (suc i) h = own_word bs more i (omega arith)

-- and bytes 2j and 2j + 1 are in word j
pair_word : (bs more : List ℕ) (j : ℕ) → 2 * j < length bs → slice_get (pairs bs ++ more) j ≡ Some (get_or bs (2 * j) 0 + 256 * get_or bs (2 * j + 1) 0)
pair_word [] more j h = absurd (omega arith)
pair_word (a ∷ []) more zero h = let e : a ≡ a + 256 * 0 = omega arith in ap Some e
pair_word (a ∷ []) more (suc j) h = absurd (omega arith)
pair_word (a ∷ b ∷ bs) more zero h = refl
pair_word (a ∷ b ∷ bs) more (suc j) h =
    let e : 2 * suc j ≡ suc (suc (2 * j)) = omega arith in
    let f : 2 * suc j + 1 ≡ suc (suc (2 * j + 1)) = omega arith in
    rw (f, e) (pair_word bs more j (omega arith))

-- a word in range is read as it stands
in_range : (most w : ℕ) → w < most → below most w ≡ Some w
in_range most w h = rw (lt-ltb w most h)

-- the halves are in range, and make up the byte
half_byte : (bs more : List ℕ) → Small bs → (i : ℕ) → i < length bs → byte_at Halves (halves bs ++ more) i ≡ Some (get_or bs i 0)
half_byte bs more small i h =
    let b = get_or bs i 0 in
    let s = small i in
    let l : b % 16 < 16 = omega arith in
    let g : b / 16 < 16 = omega arith in
    let e : b % 16 + 16 * (b / 16) ≡ b = omega arith in
    rw (low_half bs more i h, high_half bs more i h, in_range 16 (b % 16) l, in_range 16 (b / 16) g) (ap Some e)

-- so is a byte that is a word,
whole_byte : (bs more : List ℕ) → Small bs → (i : ℕ) → i < length bs → byte_at Bytes (bs ++ more) i ≡ Some (get_or bs i 0)
whole_byte bs more small i h = rw (own_word bs more i h) (in_range 256 (get_or bs i 0) (small i))

-- one of the two bytes of a word
split_pair : (a b : ℕ) → a < 256 → b < 256 → (a + 256 * b < 65536) × ((a + 256 * b) % 256 ≡ a) × ((a + 256 * b) / 256 ≡ b)
split_pair a b h k = (omega arith, omega arith, omega arith)

-- and a word of two bytes gives each back
pair_byte : (bs more : List ℕ) → Small bs → (i : ℕ) → i < length bs → byte_at Pairs (pairs bs ++ more) i ≡ Some (get_or bs i 0)
pair_byte bs more small i h =
    let j = i / 2 in
    let a = get_or bs (2 * j) 0 in
    let b = get_or bs (2 * j + 1) 0 in
    let parts = split_pair a b (small (2 * j)) (small (2 * j + 1)) in
    rw (pair_word bs more j (omega arith), in_range 65536 (a + 256 * b) parts.0)
    (⊎_elim
    (λ (e : i % 2 ≡ 0). let at : 2 * j ≡ i = omega arith in rw (eq-eqb (i % 2) 0 e) (ap Some (parts.1 ∙ ap (λ k. get_or bs k 0) at)))
    (λ (n : i % 2 ≡ 0 → ⊥). let at : 2 * j + 1 ≡ i = omega arith in rw (ne_eqb (i % 2) 0 n) (ap Some (parts.2 ∙ ap (λ k. get_or bs k 0) at)))
    (cases_eq (i % 2) 0))

-- whatever follows the words of bytes, each byte is found in them
pub byte_in : (p : Packing) (bs more : List ℕ) → Small bs → (i : ℕ) → i < length bs → byte_at p (in_words p bs ++ more) i ≡ Some (get_or bs i 0)
byte_in Halves bs more small i h = half_byte bs more small i h
byte_in Bytes bs more small i h = whole_byte bs more small i h
byte_in Pairs bs more small i h = pair_byte bs more small i h

-- how many words there are
halves_long : (bs : List ℕ) → length (halves bs) ≡ 2 * length bs
halves_long [] = refl
halves_long (b ∷ bs) = let e = halves_long bs in omega arith

pairs_long : (bs : List ℕ) → length (pairs bs) ≡ (length bs + 1) / 2
pairs_long [] = refl
pairs_long (a ∷ []) = refl
pairs_long (a ∷ b ∷ bs) = let e = pairs_long bs in omega arith

pub words_long : (p : Packing) (bs : List ℕ) → length (in_words p bs) ≡ words_for p (length bs)
words_long Halves bs = halves_long bs
words_long Bytes bs = refl
words_long Pairs bs = pairs_long bs

-- each of them is in range
halves_range : (bs : List ℕ) → Small bs → (k d : ℕ) → k < length (halves bs) → get_or (halves bs) k d < 16
halves_range [] small k d h = absurd (omega arith)
halves_range (b ∷ bs) small zero d h = omega arith
halves_range (b ∷ bs) small (suc zero) d h = let s = small 0 in omega arith
halves_range (b ∷ bs) small (suc (suc k)) d h = halves_range bs (λ i. small (suc i)) k d (omega arith)

pairs_range : (bs : List ℕ) → Small bs → (k d : ℕ) → k < length (pairs bs) → get_or (pairs bs) k d < 65536
pairs_range [] small k d h = absurd (omega arith)
pairs_range (a ∷ []) small zero d h = let s = small 0 in omega arith
pairs_range (a ∷ []) small (suc k) d h = absurd (omega arith)
pairs_range (a ∷ b ∷ bs) small zero d h = let s = small 0 in let t = small 1 in omega arith
pairs_range (a ∷ b ∷ bs) small (suc k) d h = pairs_range bs (λ i. small (suc (suc i))) k d (omega arith)

pub words_range : (p : Packing) (bs : List ℕ) → Small bs → All (λ w. w < limit p) (in_words p bs)
words_range Halves bs small = halves_range bs small
words_range Bytes bs small = λ k d h. let e = get_or_default bs k d 0 h in let s = small k in omega arith
words_range Pairs bs small = pairs_range bs small
