-- What a lay and a write leave and answer, from what the code found out.
use Rattle.std.proofs.Common.{◌≡◌, ℕ, ◌<◌, List, length, get_or, set, Some, None, Ok, Option, sym, ap, ◌∙◌, subst}
use Rattle.std.specs.Option.{option_map}
use Rattle.std.proofs.lemmas.List.{length-map, get_or-map, map-set}
use Rattle.field.specs.Arithmetic.{Arithmetic}
use Rattle.plan.specs.Coefficients.{Coefficients}
use Rattle.shelf.specs.declared.shape.Shape.{Shape}
use Rattle.shelf.specs.Refusals.{word_refusal, lay_refusal}
use Rattle.shelf.specs.declared.refusal.Refusal.{Refusal}
use Rattle.archive.specs.declared.stripe.Stripe.{Stripe}
use Rattle.archive.specs.declared.stripe.Rewrite.{Rewrite}
use Rattle.archive.specs.Outcome.{Carried}
use Rattle.archive.specs.Stripes.{Held, held, held_at, shown, laid, rewritten, comparing, laying_if, laying, writing_over, writing_if, writing}

-- there are as many places to hold something as there are places
pub held_length : (n l : ℕ) (places : List (Option Stripe)) → ◌≡◌ {A = Shape} (record { bays = n; places = length places; limit = l }) (record { bays = n; places = length (held_at places); limit = l })
held_length n l places = ap (λ p. record { bays = n; places = p; limit = l }) (sym (length-map places (option_map held)))

-- what the element at a place holds is what is held there
pub held_here : (places : List (Option Stripe)) (p : ℕ) (r o : Option Stripe) → p < length places → r ≡ get_or places p r → r ≡ o → get_or (held_at places) p None ≡ option_map held o
held_here places p r o d e is = get_or-map (option_map held) places p r None d ∙ ap (option_map held) (sym e ∙ is)

-- setting a place sets what is held there
pub held-set : (places : List (Option Stripe)) (p : ℕ) (s : Stripe) (h : Held) → held s ≡ h → held_at (set places p (Some s)) ≡ set (held_at places) p (Some h)
held-set places p s h e = map-set (option_map held) places p (Some s) ∙ ap (λ y. set (held_at places) p (Some y)) e

-- a shape is the one of the stripes
abbrev pub IsShape : Arithmetic → Coefficients → List (Option Held) → Shape → Type 0
IsShape k x hs shape = shape ≡ record { bays = x.n; places = length hs; limit = k.order }

module _ (k : Arithmetic) (x : Coefficients) (hs : List (Option Held)) (shape : Shape) (is : IsShape k x hs shape) where
  -- a lay that the test lets through sets its place
  pub lay_done : (place : ℕ) (words : List ℕ) (after : List (Option Held)) (answer : Stripe) → lay_refusal shape.bays shape.places shape.limit place words ≡ None → after ≡ set hs place (Some (laid k x words)) → held answer ≡ laid k x words → Carried held hs after (laying k x hs place words) (Ok answer)
  lay_done place words after answer none ea er =
      subst (λ (o : Option Refusal). Carried held hs after (laying_if k x hs place words o) (Ok answer))
      (sym (sym (ap (λ (s : Shape). lay_refusal s.bays s.places s.limit place words) is) ∙ none)) (ea, ap Ok (sym er))

  -- and a write rewrites what is held there
  pub write_done : (bay place word : ℕ) (h : Held) (after : List (Option Held)) (answer : Rewrite) → word_refusal shape.bays shape.places shape.limit bay place word ≡ None → get_or hs place None ≡ Some h → after ≡ set hs place (Some (rewritten k x bay word h)) → shown answer ≡ comparing k x bay h (rewritten k x bay word h) → Carried shown hs after (writing k x hs bay place word) (Ok answer)
  write_done bay place word h after answer none some ea er =
      subst (λ (o : Option Refusal). Carried shown hs after (writing_if k x hs bay place word o) (Ok answer))
      (sym (sym (ap (λ (s : Shape). word_refusal s.bays s.places s.limit bay place word) is) ∙ none))
      (subst (λ (o : Option Held). Carried shown hs after (writing_over k x hs bay place word o) (Ok answer)) (sym some) (ea, ap Ok (sym er)))
