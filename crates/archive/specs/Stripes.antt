-- What is held at a place, and when its checks are those of its words.
use Rattle.std.specs.Prelude.{◌≡◌, ℕ, ◌+◌, ◌%◌, List, [], ◌∷◌, map, length, Some, None, Ok, Err, vec_items, Option, Result, slice_index, slice_index_or, slice_set, nat_le}
use Rattle.std.specs.List.{list_any}
use Rattle.std.specs.Option.{option_map}
use Rattle.field.specs.Arithmetic.{Arithmetic}
use Rattle.plan.specs.Coefficients.{Coefficients}
use Rattle.plan.specs.Rows.{Vector, codes, checks_on, all_moved}
use Rattle.shelf.specs.Refusals.{first_of, word_refusal, lay_refusal}
use Rattle.shelf.specs.declared.refusal.Refusal.{Refusal}
use Rattle.shelf.specs.declared.refusal.Refusal.TheVariants.{NoSuchBay, Lost}
use Rattle.linear.specs.Sets.{left, TellsJust}
use Rattle.archive.specs.Outcome.{Outcome, refused, Carried}
use Rattle.archive.specs.declared.fault.Fault.{Fault}
use Rattle.archive.specs.declared.fault.Fault.TheVariants.{Refused}
use Rattle.archive.specs.declared.loss.Loss.{Loss}
use Rattle.archive.specs.declared.stripe.Stripe.{Stripe}
use Rattle.archive.specs.declared.stripe.Rewrite.{Rewrite}

-- the data words and the check words
pub record Held : Type 0 where
  pub words : List ℕ
  pub checks : List ℕ

abbrev pub held : Stripe → Held
held s = record { words = vec_items s.words; checks = vec_items s.checks }

-- what is held at each place: none where nothing was laid
abbrev pub held_at : List (Option Stripe) → List (Option Held)
held_at places = map (option_map held) places

-- the words of a lay, with the checks that they give
abbrev pub laid : Arithmetic → Coefficients → List ℕ → Held
laid k x words = record { words = words; checks = checks_on k x (codes k words) }

-- one word changed, and each check moved
abbrev pub rewritten : Arithmetic → Coefficients → ℕ → ℕ → Held → Held
rewritten k x bay word h = record {
  words = slice_set h.words bay word;
  checks = all_moved k x 0 bay (slice_index h.words bay % k.order) (word % k.order) (codes k h.checks);
}

-- The words are a data vector, and the checks are those that they give.
pub record Coded (k : Arithmetic) (x : Coefficients) (h : Held) : Type 0 where
  pub vector : Vector k x.n h.words
  pub given : h.checks ≡ checks_on k x h.words

-- What is held at each place is coded.
abbrev pub Sound : Arithmetic → Coefficients → List (Option Held) → Type 0
Sound k x hs = (p : ℕ) (h : Held) → slice_index_or hs p None ≡ Some h → Coded k x h

-- What a rewrite shows: the old word, the checks before and after it, and the checks computed afresh from the new words.
pub record Shown : Type 0 where
  pub old : ℕ
  pub before : List ℕ
  pub after : List ℕ
  pub afresh : List ℕ

abbrev pub shown : Rewrite → Shown
shown w = record { old = w.old; before = vec_items w.before; after = vec_items w.after; afresh = vec_items w.afresh }

-- what is shown of the stripes before and after a rewrite
abbrev pub comparing : Arithmetic → Coefficients → ℕ → Held → Held → Shown
comparing k x bay h next = record {
  old = slice_index h.words bay;
  before = h.checks;
  after = next.checks;
  afresh = checks_on k x (codes k next.words);
}

-- a lay, once it is known whether it is refused
abbrev pub laying_if : Arithmetic → Coefficients → List (Option Held) → ℕ → List ℕ → Option Refusal → Outcome (List (Option Held)) Held
laying_if k x hs place words (Some e) = refused hs (Refused e)
laying_if k x hs place words None = record { after = slice_set hs place (Some (laid k x words)); answer = Ok (laid k x words) }

-- A lay sets the words at its place, with the checks that they give.
abbrev pub laying : Arithmetic → Coefficients → List (Option Held) → ℕ → List ℕ → Outcome (List (Option Held)) Held
laying k x hs place words = laying_if k x hs place words (lay_refusal x.n (length hs) k.order place words)

-- a write, once it is known what is held at its place
abbrev pub writing_over : Arithmetic → Coefficients → List (Option Held) → ℕ → ℕ → ℕ → Option Held → Outcome (List (Option Held)) Shown
writing_over k x hs bay place word None = refused hs (Refused Lost)
writing_over k x hs bay place word (Some h) = record { after = slice_set hs place (Some (rewritten k x bay word h)); answer = Ok (comparing k x bay h (rewritten k x bay word h)) }

-- and once it is known whether it is refused
abbrev pub writing_if : Arithmetic → Coefficients → List (Option Held) → ℕ → ℕ → ℕ → Option Refusal → Outcome (List (Option Held)) Shown
writing_if k x hs bay place word (Some e) = refused hs (Refused e)
writing_if k x hs bay place word None = writing_over k x hs bay place word (slice_index_or hs place None)

-- A write changes one word of what is held at its place, and moves each check; it is lost where nothing is held.
abbrev pub writing : Arithmetic → Coefficients → List (Option Held) → ℕ → ℕ → ℕ → Outcome (List (Option Held)) Shown
writing k x hs bay place word =
    writing_if k x hs bay place word (word_refusal x.n (length hs) k.order bay place word)

-- why lost bays are refused: one of them is none of the plan's
abbrev pub loss_refusal : Coefficients → List ℕ → Option Refusal
loss_refusal x lost = first_of ((list_any (nat_le (x.n + x.m)) lost, NoSuchBay) ∷ [])

-- What is told of lost bays: bit b is set just where the other bays of the plan tell the row of bay b.
abbrev pub Loses : Arithmetic → Coefficients → List ℕ → Result Loss Fault → Type 0
Loses k x lost (Ok l) =
    (loss_refusal x lost ≡ None) × (vec_items l.lost ≡ lost) × (l.data_bays ≡ x.n) × TellsJust k x (left lost) l.told
Loses k x lost (Err e) = option_map Refused (loss_refusal x lost) ≡ Some e

-- What the calls promise of the stripes before and after them.
abbrev pub Lays : Arithmetic → Coefficients → List (Option Stripe) → List (Option Stripe) → ℕ → List ℕ → Result Stripe Fault → Type 0
Lays k x before after place words r =
    Carried held (held_at before) (held_at after) (laying k x (held_at before) place words) r

abbrev pub Writes : Arithmetic → Coefficients → List (Option Stripe) → List (Option Stripe) → ℕ → ℕ → ℕ → Result Rewrite Fault → Type 0
Writes k x before after bay place word r =
    Carried shown (held_at before) (held_at after) (writing k x (held_at before) bay place word) r
