-- How a printed line is cut into its tokens again.
use Rattle.std.proofs.Common.{◌≡◌, ℕ, ◌+◌, Bool, true, false, ◌&&◌, List, [], ◌∷◌, ◌++◌, refl, sym, ap, ◌∙◌, arith}
use mathlib.Core.List.{append_assoc}
use Rattle.std.specs.Prelude.{◌==◌}
use Rattle.std.specs.List.{AllByRecursion}
use Rattle.std.proofs.lemmas.Bool.Decides.{nat_tests}
use Rattle.std.proofs.lemmas.Bool.{and_parts, not-true}
use Rattle.command.specs.Lines.{naming}
use Rattle.command.specs.Tokens.{blank, solid, apart, onto, tokens}
use Rattle.description.proofs.Cutting.{said_end}
use Rattle.description.specs.Lines.{Said, inside, lines_of, with_line, said_by, said_after}
use Rattle.description.specs.Printable.{each_solid, IsToken}
use Rattle.description.specs.Printing.{tokens_onto, line_onto, printed}

-- each of these tokens behind a blank
abbrev pub behind_blanks : List (List ℕ) → List ℕ
behind_blanks [] = []
behind_blanks (t ∷ ts) = 32 ∷ (t ++ behind_blanks ts)

-- the text of a line, without its newline
abbrev pub joined : List (List ℕ) → List ℕ
joined [] = []
joined (t ∷ ts) = t ++ behind_blanks ts

-- no byte of it is a newline
abbrev pub each_inside : List ℕ → Bool
each_inside [] = true
each_inside (c ∷ cs) = inside c && each_inside cs

-- a byte in front of another is put onto the token that begins with that
one_more : (c d : ℕ) (s : List ℕ) → blank c ≡ false → blank d ≡ false → tokens (c ∷ d ∷ s) ≡ onto c (tokens (d ∷ s))
one_more c d s h k = rw (h, k) refl

-- a token ends where the text behind it begins with a blank, or is empty
pub one_token : (t r : List ℕ) → IsToken t → apart r ≡ true → tokens (t ++ r) ≡ t ∷ tokens r
one_token [] r h e = absurd (omega (arith, h.0))
one_token (c ∷ []) r h e = let s = and_parts _ _ h.1 in rw (not-true (blank c) s.0, e) refl
one_token (c ∷ d ∷ t) r h e =
    let s = and_parts _ _ h.1 in
    let u = and_parts _ _ s.1 in
    one_more c d (t ++ r) (not-true (blank c) s.0) (not-true (blank d) u.0) ∙ (ap (onto c) (one_token (d ∷ t) r (omega arith, s.1) e))

-- what stands behind a token begins with a blank, or is empty
behind_apart : (ts : List (List ℕ)) → apart (behind_blanks ts) ≡ true
behind_apart [] = refl
behind_apart (t ∷ ts) = refl

behind_tokens : (ts : List (List ℕ)) → AllByRecursion IsToken ts → tokens (behind_blanks ts) ≡ ts
behind_tokens [] h = refl
behind_tokens (t ∷ ts) h = one_token t (behind_blanks ts) h.0 (behind_apart ts) ∙ ap (λ us. t ∷ us) (behind_tokens ts h.1)

-- the tokens of a line are those that it was printed from
pub tokens_joined : (ts : List (List ℕ)) → AllByRecursion IsToken ts → tokens (joined ts) ≡ ts
tokens_joined [] h = refl
tokens_joined (t ∷ ts) h = one_token t (behind_blanks ts) h.0 (behind_apart ts) ∙ ap (λ us. t ∷ us) (behind_tokens ts h.1)

-- a text without newlines, and a newline behind it, are the first line
line_ends : (s rest : List ℕ) → each_inside s ≡ true → lines_of (s ++ 10 ∷ rest) ≡ s ∷ lines_of rest
line_ends [] rest h = refl
line_ends (c ∷ s) rest h =
    let p = and_parts _ _ h in
    rw (not-true (c == 10) p.0) (ap (onto c) (line_ends s rest p.1))

-- a blank or another byte of a token is no newline
solid_inside : (c : ℕ) → solid c ≡ true → inside c ≡ true
solid_inside c h = grind (arith, nat_tests)

inside_append : (s r : List ℕ) → each_solid s ≡ true → each_inside r ≡ true → each_inside (s ++ r) ≡ true
inside_append [] r h e = e
inside_append (c ∷ s) r h e = let p = and_parts _ _ h in rw (solid_inside c p.0) (inside_append s r p.1 e)

behind_inside : (ts : List (List ℕ)) → AllByRecursion IsToken ts → each_inside (behind_blanks ts) ≡ true
behind_inside [] h = refl
behind_inside (t ∷ ts) h = inside_append t (behind_blanks ts) h.0.1 (behind_inside ts h.1)

-- so a line has no newline but at its end
joined_inside : (ts : List (List ℕ)) → AllByRecursion IsToken ts → each_inside (joined ts) ≡ true
joined_inside [] h = refl
joined_inside (t ∷ ts) h = inside_append t (behind_blanks ts) h.0.1 (behind_inside ts h.1)

-- a printed line is its text, a newline, and then the rest
behind_onto : (ts : List (List ℕ)) (rest : List ℕ) → tokens_onto ts rest ≡ behind_blanks ts ++ 10 ∷ rest
behind_onto [] rest = refl
behind_onto (t ∷ ts) rest = ap (λ x. 32 ∷ (t ++ x)) (behind_onto ts rest) ∙ ap (λ x. 32 ∷ x) (sym (append_assoc t (behind_blanks ts) (10 ∷ rest)))

line_is : (ts : List (List ℕ)) (rest : List ℕ) → line_onto ts rest ≡ joined ts ++ 10 ∷ rest
line_is [] rest = refl
line_is (t ∷ ts) rest = ap (λ x. t ++ x) (behind_onto ts rest) ∙ sym (append_assoc t (behind_blanks ts) (10 ∷ rest))

-- what lines of tokens say, where n lines stand before them
abbrev pub said_in : ℕ → List (List (List ℕ)) → List Said
said_in n [] = []
said_in n (l ∷ ls) = with_line (n + 1) (naming l) (said_in (n + 1) ls)

-- a printed line says what its tokens say, and then the rest of the text says what it says
line_said : (n : ℕ) (l : List (List ℕ)) (rest : List ℕ) → AllByRecursion IsToken l → said_after n (line_onto l rest) ≡ with_line (n + 1) (naming l) (said_after (n + 1) rest)
unfolding said_after
line_said n l rest h =
    ap (said_after n) (line_is l rest) ∙ ap (said_by n) (line_ends (joined l) rest (joined_inside l h)) ∙ ap (λ ts. with_line (n + 1) (naming ts) (said_after (n + 1) rest)) (tokens_joined l h)

-- a printed text says what its lines of tokens say
pub printed_said : (n : ℕ) (ls : List (List (List ℕ))) → AllByRecursion (AllByRecursion IsToken) ls → said_after n (printed ls) ≡ said_in n ls
printed_said n [] h = said_end n [] refl
printed_said n (l ∷ ls) h = line_said n l (printed ls) h.0 ∙ ap (with_line (n + 1) (naming l)) (printed_said (n + 1) ls h.1)
