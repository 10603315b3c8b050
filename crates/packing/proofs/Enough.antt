-- A file is told by the words that it takes, whatever comes after them.
use Rattle.std.proofs.Common.{◌≡◌, ℕ, zero, suc, ◌+◌, ◌*◌, ◌/◌, ◌<◌, ◌≤◌, List, [], ◌∷◌, ◌++◌, take, Some, None, Option, refl, ap, arith}
use Rattle.std.specs.List.{slice_get}
use Rattle.std.specs.Option.{option_map, option_and_then}
use Rattle.packing.specs.declared.packing.Packing.{Packing}
use Rattle.packing.specs.declared.packing.Packing.TheVariants.{Halves, Bytes, Pairs}
use Rattle.packing.specs.Packed.{words_for, length_words}
use Rattle.packing.specs.Unpacked.{word_at, byte_at, bytes_from, number_of, file_length, unpacked}
use Rattle.packing.proofs.Back.{words_add}

-- an element in front of a cut is there after it,
get_in_front : (k : ℕ) (ws : List ℕ) (j : ℕ) → j < k → slice_get (take k ws) j ≡ slice_get ws j
get_in_front zero ws j h = absurd (omega arith)
get_in_front (suc k) [] j h = refl
get_in_front (suc k) (w ∷ ws) zero h = refl
get_in_front (suc k) (w ∷ ws) (suc j) h = get_in_front k ws j (omega arith)

-- so a byte whose words are in front of it is told the same,
byte_in_front : (p : Packing) (k : ℕ) (ws : List ℕ) (i : ℕ) → words_for p (i + 1) ≤ k → byte_at p (take k ws) i ≡ byte_at p ws i
byte_in_front Halves k ws i h = rw (get_in_front k ws (2 * i) (omega arith), get_in_front k ws (2 * i + 1) (omega arith))
byte_in_front Bytes k ws i h = rw (get_in_front k ws i (omega arith))
byte_in_front Pairs k ws i h = rw (get_in_front k ws (i / 2) (omega arith))

-- more bytes take no fewer words
words_grow : (p : Packing) (m n : ℕ) → m ≤ n → words_for p m ≤ words_for p n
words_grow Halves m n h = omega arith
words_grow Bytes m n h = h
words_grow Pairs m n h = omega arith

-- and so is a run of bytes
run_in_front : (p : Packing) (k : ℕ) (ws : List ℕ) (i n : ℕ) → words_for p (i + n) ≤ k → bytes_from p (take k ws) i n ≡ bytes_from p ws i n
run_in_front p k ws i zero h = refl
run_in_front p k ws i (suc n) h =
    let first = words_grow p (i + 1) (i + suc n) (omega arith) in
    let rest : i + 1 + n ≡ i + suc n = omega arith in
    rw (byte_in_front p k ws i (omega arith), run_in_front p k ws (i + 1) n (rw rest h))

-- a length takes the words of four bytes
length_in_front : (p : Packing) (k : ℕ) (ws : List ℕ) → length_words p ≤ k → file_length p (take k ws) ≡ file_length p ws
length_in_front p k ws h = ap (λ o. option_map number_of o) (run_in_front p k ws 0 4 h)

-- the words that a file takes are enough
enough_by_length : (p : Packing) (ws : List ℕ) (n : ℕ) → file_length p ws ≡ Some n → unpacked p (take (length_words p + words_for p n) ws) ≡ unpacked p ws
enough_by_length p ws n h =
    let k = length_words p + words_for p n in
    rw (length_in_front p k ws (omega arith), h) (run_in_front p k ws 4 n (let e = words_add p n in omega arith))

-- an element that is there stays where more follow,
get_stays : (ws more : List ℕ) (j x : ℕ) → slice_get ws j ≡ Some x → slice_get (ws ++ more) j ≡ Some x
get_stays [] more j x h = absurd (let z : ◌≡◌ {A = ℕ} 0 1 = cc in let v : ⊥ = omega arith in v)
get_stays (w ∷ ws) more zero x h = h
get_stays (w ∷ ws) more (suc j) x h = get_stays ws more j x h

-- what is there stays the same
abbrev Keeps : {X : Type 0} → Option X → Option X → Type 0
Keeps {X} o u = (x : X) → o ≡ Some x → u ≡ Some x

-- nothing is no value
nothing : {X : Type 0} (P : Type 0) (x : X) → None ≡ Some x → P
nothing P x h = absurd (let z : ◌≡◌ {A = ℕ} 0 1 = cc in let v : ⊥ = omega arith in v)

-- what is made of it stays,
keeps_map : {X Y : Type 0} (f : X → Y) (o u : Option X) → Keeps o u → Keeps (option_map f o) (option_map f u)
keeps_map f None u k y h = nothing _ y h
keeps_map f (Some x) u k y h = rw (k x refl) h

-- and what goes on from it
keeps_then : {X Y : Type 0} (f g : X → Option Y) (o u : Option X) → Keeps o u → ((x : X) → Keeps (f x) (g x)) → Keeps (option_and_then f o) (option_and_then g u)
keeps_then f g None u k each y h = nothing _ y h
keeps_then f g (Some x) u k each y h = rw (k x refl) (each x y h)

-- so a word stays where more follow, and with it a byte,
word_stays : (p : Packing) (ws more : List ℕ) (i : ℕ) → Keeps (word_at p ws i) (word_at p (ws ++ more) i)
word_stays p ws more i = keeps_then _ _ (slice_get ws i) (slice_get (ws ++ more) i) (λ x h. get_stays ws more i x h) (λ w x h. h)

byte_stays : (p : Packing) (ws more : List ℕ) (i : ℕ) → Keeps (byte_at p ws i) (byte_at p (ws ++ more) i)
byte_stays Halves ws more i = keeps_then _ _ (word_at Halves ws (2 * i)) (word_at Halves (ws ++ more) (2 * i)) (word_stays Halves ws more (2 * i)) (λ low. keeps_map (λ high. low + 16 * high) (word_at Halves ws (2 * i + 1)) (word_at Halves (ws ++ more) (2 * i + 1)) (word_stays Halves ws more (2 * i + 1)))
byte_stays Bytes ws more i = word_stays Bytes ws more i
byte_stays Pairs ws more i = keeps_map _ (word_at Pairs ws (i / 2)) (word_at Pairs (ws ++ more) (i / 2)) (word_stays Pairs ws more (i / 2))

-- a run of bytes
run_stays : (p : Packing) (ws more : List ℕ) (i n : ℕ) → Keeps (bytes_from p ws i n) (bytes_from p (ws ++ more) i n)
run_stays p ws more i zero = λ bs h. h
run_stays p ws more i (suc n) =
    keeps_then _ _ (byte_at p ws i) (byte_at p (ws ++ more) i) (byte_stays p ws more i)
    (λ b. keeps_map (λ bs. b ∷ bs) (bytes_from p ws (i + 1) n) (bytes_from p (ws ++ more) (i + 1) n) (run_stays p ws more (i + 1) n))

-- and a length
length_stays : (p : Packing) (ws more : List ℕ) → Keeps (file_length p ws) (file_length p (ws ++ more))
length_stays p ws more = keeps_map number_of (bytes_from p ws 0 4) (bytes_from p (ws ++ more) 0 4) (run_stays p ws more 0 4)

-- the words that begin with a length tell how many are enough
pub enough : (p : Packing) (ws : List ℕ) (n : ℕ) → file_length p ws ≡ Some n → (more : List ℕ) → unpacked p (take (length_words p + words_for p n) (ws ++ more)) ≡ unpacked p (ws ++ more)
enough p ws n h more = enough_by_length p (ws ++ more) n (length_stays p ws more n h)
