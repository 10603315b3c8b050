-- What the cells of a place gave, bay after bay, and whether some data vector gives all of the words.
use Rattle.std.specs.Prelude.{◌≡◌, ℕ, ◌+◌, ◌<◌, ◌≤◌, Bool, true, ⊤, ◌==◌, nat_lt, List, length, slice_index, slice_index_or, Option, Some, None}
use Rattle.std.specs.List.{All}
use Rattle.field.specs.Arithmetic.{Arithmetic}
use Rattle.plan.specs.Coefficients.{Coefficients}
use Rattle.plan.specs.Rows.{row, dot, codes, check_on, Vector}
use Rattle.shelf.specs.Table.{Table, Cell, blank, holds, SameShape, Decayed}
use Rattle.shelf.specs.Calls.{NoCell}
use Rattle.linear.specs.declared.equation.Equation.{Equation}
use Rattle.linear.specs.Equations.{Satisfies}
use Rattle.array.specs.Finding.{bay_word}

-- what the cell of bay b gave: a word, or none
abbrev pub word_at : List (Option ℕ) → ℕ → Option ℕ
word_at cells b = slice_index_or cells b None

-- A cell that gave a word held it at the start, and one that gave none is blank at the end.
abbrev pub ReadCell : Cell → Cell → Option ℕ → Type 0
ReadCell before after (Some w) = before ≡ holds w
ReadCell before after None = after ≡ blank

-- the cells of a place, of the first n bays: s is the table before they were read, t the table after
pub record ReadPlace (p n : ℕ) (s t : Table) (cells : List (Option ℕ)) : Type 0 where
  pub rest : Decayed NoCell s t
  pub each : (b : ℕ) → b < n → ReadCell (s.cell b p) (t.cell b p) (word_at cells b)

-- the same between two states of a shelf, in order or not
abbrev pub ReadsPlace : {Self : Type 0} → (Self → Table) → (Self → Type 0) → ℕ → ℕ → Self → Self → List (Option ℕ) → Type 0
ReadsPlace table sound p n before after cells =
    SameShape (table before) (table after) × (length cells ≡ n)
    × (sound before → n ≤ (table before).bays → p < (table before).places → sound after × ReadPlace p n (table before) (table after) cells)

-- a data vector gives the word of bay b
abbrev pub GivesWord : Arithmetic → Coefficients → ℕ → List ℕ → Option ℕ → Type 0
GivesWord k x b v None = ⊤
GivesWord k x b v (Some w) = w ≡ dot k (row x b) v

-- a data vector gives all of the words
pub record GivesWords (k : Arithmetic) (x : Coefficients) (cells : List (Option ℕ)) (v : List ℕ) : Type 0 where
  pub vector : Vector k x.n v
  pub each : (b : ℕ) → b < x.n + x.m → GivesWord k x b v (word_at cells b)

-- some data vector does
abbrev pub Given : Arithmetic → Coefficients → List (Option ℕ) → Type 0
Given k x cells = (v : List ℕ) × GivesWords k x cells v

-- a cell has no word, or a code below the order q
abbrev pub is_code : ℕ → Option ℕ → Bool
is_code q None = true
is_code q (Some w) = nat_lt w q

-- the words of n data bays, each of which gave one
pub record DataWords (n : ℕ) (cells : List (Option ℕ)) (ws : List ℕ) : Type 0 where
  pub long : length ws ≡ n
  pub each : (b : ℕ) → b < n → word_at cells b ≡ Some (slice_index ws b)

-- the cell of check i has no word, or the one that the words of the data bays give
abbrev pub check_holds : Arithmetic → Coefficients → ℕ → List ℕ → Option ℕ → Bool
check_holds k x i ws None = true
check_holds k x i ws (Some w) = w == check_on k x i (codes k ws)

-- a vector satisfies the row of each of the first n bays that gave a word, with the word
abbrev pub SatisfiesWords : Arithmetic → Coefficients → List (Option ℕ) → ℕ → List ℕ → Type 0
SatisfiesWords k x cells n v = (b w : ℕ) → b < n → word_at cells b ≡ Some w → Satisfies k v (bay_word x b w)

-- equations that say just that
pub record EquationsOf (k : Arithmetic) (x : Coefficients) (cells : List (Option ℕ)) (n : ℕ) (es : List Equation) : Type 0 where
  pub few : length es ≤ n
  pub to : (v : List ℕ) → SatisfiesWords k x cells n v → All (Satisfies k v) es
  pub from : (v : List ℕ) → All (Satisfies k v) es → SatisfiesWords k x cells n v
