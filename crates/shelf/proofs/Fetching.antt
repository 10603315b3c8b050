-- A fetch, one place more at a time.
use Rattle.std.proofs.Common.{◌≡◌, ℕ, ◌+◌, ◌<◌, ◌≤◌, List, [], ◌∷◌, ◌++◌, length, set, None, Ok, Err, Option, Result, sym, refl, ap, ◌∙◌, subst, arith}
use Rattle.std.proofs.lemmas.List.{length_push}
use Rattle.std.proofs.lemmas.Bool.{lt-leb, le-ltb, eq-eqb}
use Rattle.shelf.specs.declared.refusal.Refusal.{Refusal}
use Rattle.shelf.specs.Refusals.{bay_refusal, run_refusal, fetch_refusal}
use Rattle.shelf.specs.Table.{Table}
use Rattle.shelf.specs.Calls.{Outcome, Read, refuses_read}
use Rattle.shelf.specs.Reads.{Reads, Fetched, Fetches, along, over, word_of, mark_of, words_in}
use Rattle.shelf.proofs.Words.{bay_fit, run_fit}
use Rattle.shelf.proofs.Running.{reads_more, reads_made, over_some, over_none, words_some, words_none}

-- after i places: the reads so far, and what they put into the buffers
abbrev pub Fetching : {Self : Type 0} → (Self → Table) → (Self → Type 0) → ℕ → ℕ → Self → Self → List ℕ → List ℕ → List ℕ → List ℕ → ℕ → ℕ → Type 0
Fetching table sound bay first before after words words' marks marks' i found =
    (rs : List (Result ℕ Refusal)) × (length rs ≡ i) × Reads table sound (along bay first) 0 before rs after
    × (words' ≡ over word_of rs words) × (marks' ≡ over mark_of rs marks) × (found ≡ words_in rs)

-- a run of places within the shelf passes the tests
pub fetch_there : (t : Table) (bay first n m : ℕ) → bay_refusal t.bays bay ≡ None → n ≡ m → run_refusal t.places first n ≡ None → (fetch_refusal t.bays t.places bay first n m ≡ None) × (bay < t.bays) × (first + n ≤ t.places)
fetch_there t bay first n m no_bay same no_run =
    let b = bay_fit t.bays bay no_bay in
    let p = run_fit t.places first n no_run in
    let e = lt-leb t.bays bay b in let f = eq-eqb n m same in let h = le-ltb t.places (first + n) p in
    (simp (e, f, h), b, p)

module _ {Self : Type 0} (table : Self → Table) (sound : Self → Type 0) (bay first : ℕ) (s t : Self) (words words' marks marks' : List ℕ) (i found : ℕ) (so_far : Fetching table sound bay first s t words words' marks marks' i found) where
  -- a word came: it goes into its slot, with mark 1
  pub fetched_word : (u : Self) (w : ℕ) (words'' marks'' : List ℕ) (found' : ℕ) → Outcome table sound t u (refuses_read bay (first + i)) (Read bay (first + i)) (Ok w) → i < length words → i < length marks → words'' ≡ set words' i w → marks'' ≡ set marks' i 1 → found' ≡ found + 1 → Fetching table sound bay first s u words words'' marks marks'' (i + 1) found'
  fetched_word u w words'' marks'' found' read h k ws ms f =
      let (rs, n, reads, ow, om, count) = so_far in (
        rs ++ Ok w ∷ [],
        length_push rs (Ok w) ∙ ap (λ m. m + 1) n,
        reads_more table sound (along bay first) 0 i s t u rs (Ok w) (omega arith) reads read,
        ws ∙ (ap (λ xs. set xs i w) ow ∙ sym (over_some word_of rs (Ok w) w i words refl n h)),
        ms ∙ (ap (λ xs. set xs i 1) om ∙ sym (over_some mark_of rs (Ok w) 1 i marks refl n k)),
        f ∙ (ap (λ m. m + 1) count ∙ sym (words_some rs w)),
      )

  -- none came: its slot is left, with mark 0
  pub fetched_lost : (u : Self) (e : Refusal) (words'' marks'' : List ℕ) (found' : ℕ) → Outcome table sound t u (refuses_read bay (first + i)) (Read bay (first + i)) (Err e) → i < length marks → words'' ≡ words' → marks'' ≡ set marks' i 0 → found' ≡ found → Fetching table sound bay first s u words words'' marks marks'' (i + 1) found'
  fetched_lost u e words'' marks'' found' read k ws ms f =
      let (rs, n, reads, ow, om, count) = so_far in (
        rs ++ Err e ∷ [],
        length_push rs (Err e) ∙ ap (λ m. m + 1) n,
        reads_more table sound (along bay first) 0 i s t u rs (Err e) (omega arith) reads read,
        ws ∙ (ow ∙ sym (over_none word_of rs (Err e) words refl)),
        ms ∙ (ap (λ xs. set xs i 0) om ∙ sym (over_some mark_of rs (Err e) 0 i marks refl n k)),
        f ∙ (count ∙ sym (words_none rs e)),
      )

  -- at the end of the run
  pub fetched_all : (fetch_refusal (table s).bays (table s).places bay first (length words) (length marks) ≡ None) × (bay < (table s).bays) × (first + length words ≤ (table s).places) → i ≡ length words → Fetches table sound s t bay first words words' marks marks' (Ok found)
  fetched_all (none, b, p) is =
      let (rs, n, reads, ow, om, count) = so_far in
      subst (λ (o : Option Refusal). Fetched table sound s t bay first words words' marks marks' o (Ok found)) (sym none)
      (rs, n ∙ is, reads_made table sound (along bay first) s t rs (λ j k l e. (b, omega arith)) reads, ow, om, ap Ok count)
