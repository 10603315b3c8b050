-- What every description that is read has.
use Rattle.std.proofs.Common.{◌≡◌, ℕ, ◌+◌, Bool, true, false, cond, List, [], ◌∷◌, Ok, Err, Result, refl, subst, ⊎_elim, arith}
use Rattle.std.specs.List.{AllByRecursion}
use Rattle.std.proofs.lemmas.Bool.{cases_Bool}
use Rattle.command.specs.Lines.{naming, remark}
use Rattle.command.specs.Outcome as of_tokens
use Rattle.command.specs.declared.command.Fault as token_fault
use Rattle.description.specs.declared.fault.Fault.{Fault}
use Rattle.command.specs.Tokens.{blank, apart, onto, tokens}
use Rattle.description.specs.Lines.{Said, lines_of, with_line, said_by, said_after}
use Rattle.description.specs.Outcome.{following, at_line}
use Rattle.description.specs.Reading.{wanting, one}
use Rattle.std.specs.Str.{bytes_eq}
use Rattle.description.specs.declared.fault.Fault.TheVariants.{Misplaced}
use Rattle.description.specs.declared.fault.Wanted.{Wanted}
use Rattle.description.specs.Printable.{IsToken}

-- the tokens of a text are tokens: what a byte that is no blank is put onto stays one
onto_tokens : (c : ℕ) (ts : List (List ℕ)) → blank c ≡ false → AllByRecursion IsToken ts → AllByRecursion IsToken (onto c ts)
onto_tokens c [] e h = ((omega arith, rw e refl), tt)
onto_tokens c (t ∷ ts) e h = ((omega arith, rw e h.0.1), h.1)

are_tokens : (s : List ℕ) → AllByRecursion IsToken (tokens s)
are_tokens [] = tt
are_tokens (c ∷ s) =
    ⊎_elim
    (λ (h : blank c ≡ true). rw h (are_tokens s))
    (λ (h : blank c ≡ false).
    ⊎_elim
    (λ (k : apart s ≡ true). rw (h, k) ((omega arith, rw h refl), are_tokens s))
    (λ (k : apart s ≡ false). rw (h, k) (onto_tokens c (tokens s) h (are_tokens s)))
    (cases_Bool (apart s)))
    (cases_Bool (blank c))

-- the tokens of a line behind its first are tokens
abbrev pub HasTokens : Said → Type 0
HasTokens l = AllByRecursion IsToken l.others

named_tokens : (n : ℕ) (ts : List (List ℕ)) (after : List Said) → AllByRecursion IsToken ts → AllByRecursion HasTokens after → AllByRecursion HasTokens (with_line n (naming ts) after)
named_tokens n [] after h k = k
named_tokens n (t ∷ ts) after h k =
    ⊎_elim (λ (e : remark t ≡ true). rw e k) (λ (e : remark t ≡ false). rw e (h.1, k)) (cases_Bool (remark t))

lines_tokens : (n : ℕ) (ls : List (List ℕ)) → AllByRecursion HasTokens (said_by n ls)
lines_tokens n [] = tt
lines_tokens n (l ∷ ls) = named_tokens (n + 1) (tokens l) (said_by (n + 1) ls) (are_tokens l) (lines_tokens (n + 1) ls)

-- what a text says is said in tokens
pub said_tokens : (n : ℕ) (text : List ℕ) → AllByRecursion HasTokens (said_after n text)
unfolding said_after
said_tokens n text = lines_tokens n (lines_of text)

-- two answers are equal only where their values are
pub same_value : {X : Type 0} (x y : X) → (let r : Result X Fault = Ok x in r ≡ Ok y) → x ≡ y
same_value x y e = cc

-- a value comes of a value
pub after_ok : {X Y : Type 0} (r : Result X Fault) (f : X → Result Y Fault) (y : Y) → following r f ≡ Ok y → (x : X) × (r ≡ Ok x) × (f x ≡ Ok y)
after_ok (Ok x) f y e = (x, refl, e)
after_ok (Err d) f y e = absurd (cc)

pub token_ok : {X Y : Type 0} (r : Result X token_fault.Fault) (f : X → Result Y token_fault.Fault) (y : Y) → of_tokens.following r f ≡ Ok y → (x : X) × (r ≡ Ok x) × (f x ≡ Ok y)
token_ok (Ok x) f y e = (x, refl, e)
token_ok (Err d) f y e = absurd (cc)

pub line_ok : {X : Type 0} (n : ℕ) (r : Result X token_fault.Fault) (x : X) → at_line n r ≡ Ok x → r ≡ Ok x
line_ok n (Ok y) x e = cc
line_ok n (Err d) x e = absurd (cc)

-- a value comes of a test that is passed, where the other answer is a fault
pub chosen_ok : {X E : Type 0} (b : Bool) (r : Result X E) (d : E) (y : X) → cond b r (Err d) ≡ Ok y → (b ≡ true) × (r ≡ Ok y)
chosen_ok true r d y e = (refl, e)
chosen_ok false r d y e = absurd (cc)

-- what a test picks where it is passed, and where it is not
pub picked_first : {A : Type 0} (b : Bool) (r s z : A) → b ≡ true → cond b r s ≡ z → r ≡ z
picked_first true r s z h e = e
picked_first false r s z h e = absurd (cc)

pub picked_second : {A : Type 0} (b : Bool) (r s z : A) → b ≡ false → cond b r s ≡ z → s ≡ z
picked_second true r s z h e = absurd (cc)
picked_second false r s z h e = e

-- a wanted line and those after it are among the lines
pub wanting_tokens : (first : List ℕ) (w : Wanted) (ls : List Said) (x : Said × List Said) → wanting first w ls ≡ Ok x → AllByRecursion HasTokens ls → HasTokens x.0 × AllByRecursion HasTokens x.1
wanting_tokens first w [] x e h = absurd (cc)
wanting_tokens first w (l ∷ ls) x e h =
    let p = chosen_ok (bytes_eq l.first first) (Ok (l, ls)) (Misplaced l.at w) x e in
    let same : (l, ls) ≡ x = let g = p.1 in cc in
    subst (λ (y : Said × List Said). HasTokens y.0 × AllByRecursion HasTokens y.1) same (h.0, h.1)

-- the one token of a line is a token
pub one_is : (ts : List (List ℕ)) (t : List ℕ) → one ts ≡ Ok t → AllByRecursion IsToken ts → IsToken t
one_is [] t e h = absurd (cc)
one_is (u ∷ []) t e h = let same : u ≡ t = cc in subst IsToken same h.0
one_is (u ∷ v ∷ us) t e h = absurd (cc)
