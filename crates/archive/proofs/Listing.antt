-- Numbers that are listed one by one.
use Rattle.std.proofs.Common.{◌≡◌, ℕ, ◌+◌, Bool, true, false, not, cond, List, [], ◌∷◌, ◌++◌, filter, codes, refl, sym, ap, subst, ◌∙◌, append_assoc, append-nil, map-id, arith}
use Rattle.std.specs.Fmt.{decimal, HasWritten, IsPlainFormatter}
use Rattle.std.specs.declared.fmt.Formatter.{Formatter}
use Rattle.std.specs.List.{range_with_len}
use Rattle.std.proofs.lemmas.Grind.{flat_map-append, put_two}
use Rattle.std.proofs.lemmas.List.FromFn.{filter_of_map_range_with_len_more}
use Rattle.shelf.specs.Calls.{bit}
use Rattle.archive.specs.Texts.{after_blanks, listing}
use Rattle.archive.specs.declared.loss.DataBays.{DataBays}

-- numbers with blanks between them, and nothing where there is none
abbrev pub listed : List ℕ → List ℕ
listed [] = []
listed (n ∷ ns) = decimal n ++ after_blanks ns

abbrev pub none_of : List ℕ → Bool
none_of [] = true
none_of (n ∷ ns) = false

-- a bay is to be listed
abbrev pub kept : DataBays → ℕ → Bool
kept d bay = cond d.told (bit d.loss.now.told bay) (not (bit d.loss.now.told bay))

-- the bays below this one that are to be listed
abbrev pub bays_before : DataBays → ℕ → List ℕ
bays_before d n = filter (kept d) (range_with_len 0 n)

bays_push : (d : DataBays) (n : ℕ) → bays_before d (n + 1) ≡ bays_before d n ++ cond (kept d n) (n ∷ []) []
bays_push d n =
    ap (filter (kept d)) (sym (map-id (range_with_len 0 (n + 1))))
    ∙ filter_of_map_range_with_len_more (kept d) (λ x. x) 0 n n (omega arith)
    ∙ ap (λ xs. filter (kept d) xs ++ cond (kept d n) (n ∷ []) []) (map-id (range_with_len 0 n))

-- the first is listed alone, and each other behind a blank
listed_push : (ns : List ℕ) (n : ℕ) (b : Bool) → listed (ns ++ cond b (n ∷ []) []) ≡ listed ns ++ cond b (cond (none_of ns) (decimal n) (codes " " ++ decimal n)) []
listed_push [] n true = append-nil (decimal n)
listed_push [] n false = refl
listed_push (m ∷ ns) n true = grind (arith, append_assoc, append-nil, flat_map-append)
listed_push (m ∷ ns) n false = grind (arith, append_assoc, append-nil, flat_map-append)

none_push : (ns : List ℕ) (n : ℕ) (b : Bool) → none_of (ns ++ cond b (n ∷ []) []) ≡ cond b false (none_of ns)
none_push [] n true = refl
none_push [] n false = refl
none_push (m ∷ ns) n true = refl
none_push (m ∷ ns) n false = refl

-- one bay more
pub listed_more : (d : DataBays) (n : ℕ) → listed (bays_before d (n + 1)) ≡ listed (bays_before d n) ++ cond (kept d n) (cond (none_of (bays_before d n)) (decimal n) (codes " " ++ decimal n)) []
listed_more d n = ap listed (bays_push d n) ∙ listed_push (bays_before d n) n (kept d n)

pub none_more : (d : DataBays) (n : ℕ) → none_of (bays_before d (n + 1)) ≡ cond (kept d n) false (none_of (bays_before d n))
none_more d n = ap none_of (bays_push d n) ∙ none_push (bays_before d n) n (kept d n)

-- where there is none, that is said
pub listed_all : (ns : List ℕ) → listed ns ++ cond (none_of ns) (codes "none") [] ≡ listing ns
listed_all [] = refl
listed_all (m ∷ ns) = append-nil (listed (m ∷ ns))

-- how a bay goes on from those before it: as the first, as another, or not at all
pub first_listed : (d : DataBays) (n : ℕ) → kept d n ≡ true → none_of (bays_before d n) ≡ true → listed (bays_before d n) ++ decimal n ≡ listed (bays_before d (n + 1))
first_listed d n k o = sym (listed_more d n ∙ rw (k, o) refl)

pub next_listed : (d : DataBays) (n : ℕ) → kept d n ≡ true → none_of (bays_before d n) ≡ false → listed (bays_before d n) ++ (codes " " ++ decimal n) ≡ listed (bays_before d (n + 1))
next_listed d n k o = sym (listed_more d n ∙ rw (k, o) refl)

pub not_listed : (d : DataBays) (n : ℕ) → kept d n ≡ false → listed (bays_before d n) ≡ listed (bays_before d (n + 1))
not_listed d n k = sym (listed_more d n ∙ rw k (append-nil (listed (bays_before d n))))

pub some_then : (d : DataBays) (n : ℕ) → kept d n ≡ true → false ≡ none_of (bays_before d (n + 1))
some_then d n k = sym (none_more d n ∙ rw k refl)

pub none_still : (d : DataBays) (n : ℕ) → kept d n ≡ false → none_of (bays_before d n) ≡ none_of (bays_before d (n + 1))
none_still d n k = sym (none_more d n ∙ rw k refl)

-- what is written one after the other is written
pub wrote_two : {W : Type 0} (took : W → List ℕ → W → Type 0) (f f1 g1 f2 g2 : Formatter W) (xs a all : List ℕ) → HasWritten took f xs f1 → g1 ≡ f1 → (IsPlainFormatter g1 → HasWritten took g1 a f2) → g2 ≡ f2 → xs ++ a ≡ all → HasWritten took f all g2
wrote_two took f f1 g1 f2 g2 xs a all h e k i j =
    subst (λ g. HasWritten took f all g) (sym i)
    (put_two took f g1 f2 xs a all (subst (λ g. HasWritten took f xs g) (sym e) h) (k (subst IsPlainFormatter (sym e) h.plain)) j)

pub wrote_three : {W : Type 0} (took : W → List ℕ → W → Type 0) (f f1 f2 g2 f3 g3 : Formatter W) (xs a b all : List ℕ) → HasWritten took f xs f1 → HasWritten took f1 a f2 → g2 ≡ f2 → (IsPlainFormatter g2 → HasWritten took g2 b f3) → g3 ≡ f3 → xs ++ (a ++ b) ≡ all → HasWritten took f all g3
wrote_three took f f1 f2 g2 f3 g3 xs a b all h m e k i j =
    wrote_two took f f2 g2 f3 g3 (xs ++ a) b all (put_two took f f1 f2 xs a (xs ++ a) h m refl) e k i (append_assoc xs a b ∙ j)

pub wrote_same : {W : Type 0} (took : W → List ℕ → W → Type 0) (f f1 g1 : Formatter W) (xs all : List ℕ) → HasWritten took f xs f1 → g1 ≡ f1 → xs ≡ all → HasWritten took f all g1
wrote_same took f f1 g1 xs all h e j = subst (λ g. HasWritten took f all g) (sym e) (subst (λ ys. HasWritten took f ys f1) j h)
