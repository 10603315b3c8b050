-- How many lines of a script were read, and how many of them were refused.
use Rattle.std.specs.Prelude.{◌≡◌, ℕ, ◌+◌, ◌≤◌, [], length, cond, true, false, Bool, Ok, Err, Result, nat_lt}
use Rattle.script.specs.declared.script.Script.{Script}

-- the most that is counted
abbrev pub most : ℕ
most = 18446744073709551615

-- a script of which nothing is read: its input is as it was given, and no line is held or counted
pub record New {R : Type 0} (given : R) (s : Script R) : Type 0 where
  pub input : s.input ≡ given
  pub line : s.line.items ≡ []
  pub lines : s.lines ≡ 0
  pub refused : s.refused ≡ 0

-- one more, up to the most that is counted
abbrev pub one_more : ℕ → ℕ
one_more n = cond (nat_lt n most) (n + 1) n

-- A line that comes has a byte at least, and is counted; there is none just where no byte comes. None is refused yet.
abbrev pub Advances : {R E : Type 0} → Script R → Script R → Result Bool E → Type 0
Advances s t (Ok true) = (1 ≤ length t.line.items) × (t.lines ≡ one_more s.lines) × (t.refused ≡ s.refused)
Advances s t (Ok false) = (t.line.items ≡ []) × (t.lines ≡ s.lines) × (t.refused ≡ s.refused)
Advances s t (Err e) = (t.lines ≡ s.lines) × (t.refused ≡ s.refused)

-- the line and what is left of the input stay, and no further line is counted
pub record Stays {R : Type 0} (s t : Script R) : Type 0 where
  pub input : t.input ≡ s.input
  pub line : t.line ≡ s.line
  pub lines : t.lines ≡ s.lines

-- a refused line is counted as refused
abbrev pub Refuses : {R : Type 0} → Script R → Script R → Type 0
Refuses s t = Stays s t × (t.refused ≡ one_more s.refused)

-- and no other is
abbrev pub Tells : {R T E : Type 0} → Result T E → Script R → Script R → Type 0
Tells (Ok x) s t = Stays s t × (t.refused ≡ s.refused)
Tells (Err e) s t = Refuses s t
