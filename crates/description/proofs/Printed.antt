-- How the lines of a text are printed one after another.
use Rattle.std.proofs.Common.{◌≡◌, ℕ, suc, ◌+◌, ◌^◌, ◌<◌, List, [], ◌∷◌, ◌++◌, length, get_or, drop, map, refl, sym, ap, ◌∙◌, subst}
use mathlib.Core.List.{append_assoc}
use Rattle.std.proofs.lemmas.List.{drop_more}
use Rattle.std.specs.List.{AllByRecursion}
use Rattle.description.specs.Small.{IsSmall, AreSmall}
use Rattle.description.specs.Printing.{tokens_onto, line_onto, printed, row_line}

-- a text behind the rest goes behind the whole
tokens_front : (ts : List (List ℕ)) (r s : List ℕ) → tokens_onto ts (r ++ s) ≡ tokens_onto ts r ++ s
tokens_front [] r s = refl
tokens_front (t ∷ ts) r s = ap (λ x. 32 ∷ (t ++ x)) (tokens_front ts r s) ∙ ap (λ x. 32 ∷ x) (sym (append_assoc t (tokens_onto ts r) s))

line_front : (l : List (List ℕ)) (r s : List ℕ) → line_onto l (r ++ s) ≡ line_onto l r ++ s
line_front [] r s = refl
line_front (t ∷ ts) r s = ap (λ x. t ++ x) (tokens_front ts r s) ∙ sym (append_assoc t (tokens_onto ts r) s)

-- lines behind others are printed behind them
pub printed_append : (ls ms : List (List (List ℕ))) → printed (ls ++ ms) ≡ printed ls ++ printed ms
printed_append [] ms = refl
printed_append (l ∷ ls) ms = ap (line_onto l) (printed_append ls ms) ∙ line_front l (printed ls) (printed ms)

-- a line that is printed goes to what is there
pub line_goes_on : (l : List (List ℕ)) (ls : List (List (List ℕ))) (old new : List ℕ) → new ≡ old ++ printed (l ∷ []) → new ++ printed ls ≡ old ++ printed (l ∷ ls)
line_goes_on l ls old new e = rw e (append_assoc old (printed (l ∷ [])) (printed ls) ∙ ap (λ x. old ++ x) (sym (printed_append (l ∷ []) ls)))

-- the next row is printed, and goes to what is there
pub row_printed : {V : Type 0} (codes_of : V → List ℕ) (rows : List V) (i : ℕ) (row : V) (codes mid new whole : List ℕ) → i < length rows → row ≡ get_or rows i row → codes ≡ codes_of row → new ≡ mid ++ printed (row_line codes ∷ []) → mid ++ printed (map row_line (map codes_of (drop i rows))) ≡ whole → new ++ printed (map row_line (map codes_of (drop (i + 1) rows))) ≡ whole
row_printed codes_of rows i row codes mid new whole lt at of e so_far =
    let cut : drop i rows ≡ row ∷ drop (i + 1) rows = drop_more rows i row lt ∙ ap (λ x. x ∷ drop (i + 1) rows) (sym at) in
    let next : new ≡ mid ++ printed (row_line (codes_of row) ∷ []) = e ∙ ap (λ x. mid ++ printed (row_line x ∷ [])) of in
    line_goes_on (row_line (codes_of row)) (map row_line (map codes_of (drop (i + 1) rows))) mid new next ∙ ap (λ r. mid ++ printed (map row_line (map codes_of r))) (sym cut) ∙ so_far

-- the parts of a text are printed one behind the other
pub parts_printed : (hs ts : List (List (List ℕ))) (p : List (List ℕ)) (bs : List (List (List ℕ))) (a b c d e : List ℕ) → a ≡ [] → b ≡ a ++ printed hs → c ≡ b ++ printed ts → d ≡ c ++ printed (p ∷ []) → e ≡ d ++ printed bs → e ≡ printed (hs ++ (ts ++ (p ∷ bs)))
parts_printed hs ts p bs a b c d e none head table places below =
    rw (below, places, table, head, none, printed_append hs (ts ++ (p ∷ bs)), printed_append ts (p ∷ bs), printed_append (p ∷ []) bs) (simp append_assoc)

-- a row whose codes fit 32 bits is one of the rows left whose codes do
pub row_small : {V : Type 0} (codes_of : V → List ℕ) (rows : List V) (i : ℕ) (row : V) (codes : List ℕ) → {Q : Type 0} → i < length rows → row ≡ get_or rows i row → codes ≡ codes_of row → AllByRecursion IsSmall codes → (AreSmall (map codes_of (drop i rows)) → Q) → AreSmall (map codes_of (drop (i + 1) rows)) → Q
row_small codes_of rows i row codes {Q} lt at of small so_far others =
    let cut : drop i rows ≡ row ∷ drop (i + 1) rows = drop_more rows i row lt ∙ ap (λ x. x ∷ drop (i + 1) rows) (sym at) in
    so_far (subst (λ r. AreSmall (map codes_of r)) (sym cut) (subst (AllByRecursion IsSmall) of small, others))

-- what holds of the code at each place holds of each code
pub codes_small : (codes : List ℕ) → ((i : ℕ) → get_or codes i 0 < 2 ^ 32) → AllByRecursion IsSmall codes
codes_small [] h = tt
codes_small (c ∷ cs) h = (h 0, codes_small cs (λ i. h (suc i)))
