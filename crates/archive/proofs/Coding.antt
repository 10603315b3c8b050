-- Every call leaves each stripe coded, and a rewrite's moved checks are the ones computed afresh.
use Rattle.std.proofs.Common.{◌≡◌, ℕ, zero, suc, ◌%◌, ◌<◌, Bool, true, false, ◌&&◌, leb, List, length, get_or, set, replicate, Some, None, Ok, Err, Option, Result, sym, refl, ap, ◌∙◌, subst, inl, inr, ⊎_elim, arith, length-set, get_or-set_other, get_or-set_same}
use Rattle.std.proofs.lemmas.Bool.{cases_Bool, cases_eq, cases_lt, both_ways, cond-false, leb-true}
use Rattle.std.proofs.lemmas.List.{set_past}
use Rattle.field.specs.Arithmetic.{Arithmetic, Lawful}
use Rattle.field.specs.LawfulFields as fields
use Rattle.plan.specs.Bounds.{most_data, most_checks}
use Rattle.plan.specs.Coefficients.{Coefficients, Fitting}
use Rattle.plan.specs.Powers.{powers}
use Rattle.plan.specs.Refusals.{in_range}
use Rattle.plan.specs.declared.refusal.Refusal.TheVariants.{BaysOutOfRange}
use Rattle.plan.specs.Rows.{Vector, codes, checks_on, all_moved}
use Rattle.plan.proofs.CheckWords.{codes_same, moved_afresh}
use Rattle.plan.proofs.Dots.{vector_codes}
use Rattle.plan.specs.Powering.{powers_fitting}
use Rattle.shelf.specs.Refusals.{word_refusal, lay_refusal}
use Rattle.shelf.specs.declared.refusal.Refusal.{Refusal}
use Rattle.shelf.proofs.Words.{lay_fit, word_fit}
use Rattle.command.specs.declared.command.Description.{Description}
use Rattle.command.specs.declared.command.FieldName.{FieldName}
use Rattle.command.specs.declared.command.FieldName.TheVariants.{Nibble, Byte, Count}
use Rattle.archive.specs.Outcome.{Outcome, Carried}
use Rattle.archive.specs.Stripes.{Held, Shown, held, shown, laid, rewritten, comparing, Coded, Sound, laying_if, laying, writing_over, writing_if, writing}
use Rattle.archive.specs.Fields.{arithmetic_of}
use Rattle.archive.specs.Contents.{Kept, plan_of, laying_in, writing_in, places_fault, description_fault, fresh, AllCoded}
use Rattle.archive.specs.declared.fault.Fault.{Fault}
use Rattle.archive.specs.declared.fault.Fault.TheVariants.{Plan}
use Rattle.archive.specs.declared.stripe.Stripe.{Stripe}
use Rattle.archive.specs.declared.stripe.Rewrite.{Rewrite}

-- every field that a script names keeps the laws
lawful_of : (f : FieldName) → Lawful (arithmetic_of f)
lawful_of Nibble = (fields.nibble).laws
lawful_of Byte = (fields.byte).laws
lawful_of Count = fields.count

-- one word of a vector changed
vector_set : (k : Arithmetic) (n : ℕ) (v : List ℕ) (j new : ℕ) → Vector k n v → new < k.order → Vector k n (set v j new)
vector_set k n v j new h low = record {
  long = length-set v j new ∙ h.long;
  below = λ i d. elim (cases_eq i j) [
    | inl e ↦ subst (λ (y : ℕ). y < k.order)
        (sym (ap (λ (y : ℕ). get_or (set v j new) y 0) e ∙ get_or-set_same v j new 0 (let l = h.long in omega arith))) low
    | inr e ↦ subst (λ (y : ℕ). y < k.order) (sym (get_or-set_other v j i new 0 e)) (h.below i d)
  ];
}

module _ (k : Arithmetic) (l : Lawful k) (x : Coefficients) (h : Fitting k x) where
  -- the words of a lay that is not refused are a vector, whose codes are the words themselves
  laid_coded : (places place : ℕ) (words : List ℕ) → lay_refusal x.n places k.order place words ≡ None → Coded k x (laid k x words)
  laid_coded places place words e =
      let fit = lay_fit x.n places k.order place words e in
      let vector : Vector k x.n words = record { long = fit.count; below = λ j d. fit.low j (let c = fit.count in omega arith) } in
      record { vector = vector; given = ap (checks_on k x) (codes_same k words (vector_codes k l x.n words vector)) }

  -- a rewritten stripe is coded, since each moved check is the one computed afresh
  rewritten_coded : (bay word : ℕ) (s : Held) → bay < x.n → word < k.order → Coded k x s → Coded k x (rewritten k x bay word s)
  rewritten_coded bay word s d low c = record {
    vector = vector_set k x.n s.words bay word c.vector low;
    given = ap (λ cs. all_moved k x 0 bay (get_or s.words bay 0 % k.order) (word % k.order) (codes k cs)) c.given
        ∙ moved_afresh k l x h s.words c.vector bay word d low;
  }

  -- so what a rewrite shows as moved and as computed afresh is the same
  shown_afresh : (bay word : ℕ) (s : Held) → bay < x.n → word < k.order → Coded k x s → (comparing k x bay s (rewritten k x bay word s)).after ≡ (comparing k x bay s (rewritten k x bay word s)).afresh
  shown_afresh bay word s d low c =
      let next = rewritten_coded bay word s d low c in
      next.given ∙ ap (checks_on k x) (sym (codes_same k _ (vector_codes k l x.n _ next.vector)))

  -- setting one place to a coded stripe leaves all coded
  sound_set : (hs : List (Option Held)) (p : ℕ) (s : Held) → Sound k x hs → Coded k x s → Sound k x (set hs p (Some s))
  sound_set hs p s sound c q t e = elim (cases_lt p (length hs)) [
    | inr past ↦ sound q t (ap (λ (xs : List (Option Held)). get_or xs q None) (sym (set_past hs p (Some s) past)) ∙ e)
    | inl room ↦ elim (cases_eq q p) [
      | inl same ↦
          let here : get_or (set hs p (Some s)) q None ≡ Some s = ap (λ (y : ℕ). get_or (set hs p (Some s)) y None) same ∙ get_or-set_same hs p (Some s) None room in
          let is : s ≡ t = cc in
          subst (Coded k x) is c
      | inr other ↦ sound q t (sym (get_or-set_other hs p q (Some s) None other) ∙ e)
    ]
  ]

  -- a lay that is refused changes nothing, and one that is not sets a coded stripe
  pub laying_sound : (hs : List (Option Held)) (place : ℕ) (words : List ℕ) → Sound k x hs → Sound k x (laying k x hs place words).after
  laying_sound hs place words sound = go (lay_refusal x.n (length hs) k.order place words) refl
    where
      go : (o : Option Refusal) → lay_refusal x.n (length hs) k.order place words ≡ o → Sound k x (laying_if k x hs place words o).after
      go (Some e) is = sound
      go None is = sound_set hs place (laid k x words) sound (laid_coded (length hs) place words is)

  -- a write, over what is held at its place
  over_sound : (hs : List (Option Held)) (bay place word : ℕ) → word_refusal x.n (length hs) k.order bay place word ≡ None → Sound k x hs → (o : Option Held) → get_or hs place None ≡ o → Sound k x (writing_over k x hs bay place word o).after
  over_sound hs bay place word e sound None is = sound
  over_sound hs bay place word e sound (Some s) is =
      let fit = word_fit x.n (length hs) k.order bay place word e in
      sound_set hs place (rewritten k x bay word s) sound (rewritten_coded bay word s fit.0 fit.2 (sound place s is))

  -- a write that is refused changes nothing, and one that is not rewrites a coded stripe
  pub writing_sound : (hs : List (Option Held)) (bay place word : ℕ) → Sound k x hs → Sound k x (writing k x hs bay place word).after
  writing_sound hs bay place word sound = go (word_refusal x.n (length hs) k.order bay place word) refl
    where
      go : (o : Option Refusal) → word_refusal x.n (length hs) k.order bay place word ≡ o → Sound k x (writing_if k x hs bay place word o).after
      go (Some e) is = sound
      go None is = over_sound hs bay place word is sound (get_or hs place None) refl

  -- what a write answers shows the same checks moved and computed afresh
  over_afresh : (hs : List (Option Held)) (bay place word : ℕ) → word_refusal x.n (length hs) k.order bay place word ≡ None → Sound k x hs → (o : Option Held) → get_or hs place None ≡ o → (w : Shown) → (writing_over k x hs bay place word o).answer ≡ Ok w → w.after ≡ w.afresh
  over_afresh hs bay place word e sound None is w no_answer = let z : ◌≡◌ {A = ℕ} 0 1 = cc in absurd (let y : ⊥ = omega arith in y)
  over_afresh hs bay place word e sound (Some s) is w answer =
      let fit = word_fit x.n (length hs) k.order bay place word e in
      let same : comparing k x bay s (rewritten k x bay word s) ≡ w = cc in
      subst (λ (v : Shown). v.after ≡ v.afresh) same (shown_afresh bay word s fit.0 fit.2 (sound place s is))

  -- the same of what the call answers
  pub writing_afresh : (hs : List (Option Held)) (bay place word : ℕ) → Sound k x hs → (w : Shown) → (writing k x hs bay place word).answer ≡ Ok w → w.after ≡ w.afresh
  writing_afresh hs bay place word sound w = go (word_refusal x.n (length hs) k.order bay place word) refl
    where
      go : (o : Option Refusal) → word_refusal x.n (length hs) k.order bay place word ≡ o → (writing_if k x hs bay place word o).answer ≡ Ok w → w.after ≡ w.afresh
      go (Some e) is no_answer = let z : ◌≡◌ {A = ℕ} 0 1 = cc in absurd (let y : ⊥ = omega arith in y)
      go None is answer = over_afresh hs bay place word is sound (get_or hs place None) refl w answer

-- the same of an archive, whatever its field

-- a lay
laying_coded : (s : Option Kept) (place : ℕ) (words : List ℕ) → AllCoded s → AllCoded (laying_in s place words).after
laying_coded None place words coded = tt
laying_coded (Some v) place words coded =
    (coded.0, laying_sound (arithmetic_of v.field) (lawful_of v.field) (plan_of v) coded.0 v.places place words coded.1)

-- a write
writing_coded : (s : Option Kept) (bay place word : ℕ) → AllCoded s → AllCoded (writing_in s bay place word).after
writing_coded None bay place word coded = tt
writing_coded (Some v) bay place word coded =
    (coded.0, writing_sound (arithmetic_of v.field) (lawful_of v.field) (plan_of v) coded.0 v.places bay place word coded.1)

-- what a write answers
pub afresh_in : (s : Option Kept) (bay place word : ℕ) → AllCoded s → (w : Shown) → (writing_in s bay place word).answer ≡ Ok w → w.after ≡ w.afresh
afresh_in None bay place word coded w no_answer = let z : ◌≡◌ {A = ℕ} 0 1 = cc in absurd (let y : ⊥ = omega arith in y)
afresh_in (Some v) bay place word coded w answer =
    writing_afresh (arithmetic_of v.field) (lawful_of v.field) (plan_of v) coded.0 v.places bay place word coded.1 w answer

-- whatever a call answers, it leaves what is due or what was there
after_either : {S A B : Type 0} (f : B → A) (s t : S) (due : Outcome S A) (P : S → Type 0) (r : Result B Fault) → Carried f s t due r → P s → P due.after → P t
after_either f s t due P (Ok b) c before after = subst P (sym c.0) after
after_either f s t due P (Err e) c before after =
    ⊎_elim (λ d. subst P (sym d.0) after) (λ m. subst P (sym m.1) before) c

-- so a lay keeps every stripe coded
pub lay_keeps : (s t : Option Kept) (place : ℕ) (words : List ℕ) (r : Result Stripe Fault) → Carried held s t (laying_in s place words) r → AllCoded s → AllCoded t
lay_keeps s t place words r c coded = after_either held s t (laying_in s place words) AllCoded r c coded (laying_coded s place words coded)

-- and so does a write
pub write_keeps : (s t : Option Kept) (bay place word : ℕ) (r : Result Rewrite Fault) → Carried shown s t (writing_in s bay place word) r → AllCoded s → AllCoded t
write_keeps s t bay place word r c coded = after_either shown s t (writing_in s bay place word) AllCoded r c coded (writing_coded s bay place word coded)

-- nothing is laid in a new archive
pub none_sound : (k : Arithmetic) (x : Coefficients) (n : ℕ) → Sound k x (replicate n None)
none_sound k x zero p h e = let z : ◌≡◌ {A = ℕ} 0 1 = cc in absurd (let y : ⊥ = omega arith in y)
none_sound k x (suc n) zero h e = let z : ◌≡◌ {A = ℕ} 0 1 = cc in absurd (let y : ⊥ = omega arith in y)
none_sound k x (suc n) (suc p) h e = none_sound k x n p h e

-- both tests pass
both_true : (a b : Bool) → (a && b) ≡ true → (a ≡ true) × (b ≡ true)
both_true true b e = (refl, e)
both_true false b e = absurd (both_ways false refl e)

-- the plan of powers fits, where its numbers of bays are in range
range_fitting : (k : Arithmetic) → Lawful k → (n m : ℕ) → in_range n m ≡ true → Fitting k (powers k n m)
range_fitting k l n m e =
    let last = both_true (leb 1 n && leb n most_data && leb 1 m) (leb m most_checks) e in
    let third = both_true (leb 1 n && leb n most_data) (leb 1 m) last.0 in
    let first = both_true (leb 1 n) (leb n most_data) third.0 in
    powers_fitting k l n m (leb-true 1 n first.0) (leb-true n most_data first.1) (leb-true 1 m third.1) (leb-true m most_checks last.1)

-- so an archive that was described is coded
pub fresh_coded : (d : Description) → description_fault d ≡ None → AllCoded (Some (fresh d))
fresh_coded d e =
    let n = d.data_bays in
    let m = d.check_bays in
    let k = arithmetic_of d.field in
    let range : in_range n m ≡ true = elim (cases_Bool (in_range n m)) [
      | inl yes-range ↦ yes-range
      | inr no-range ↦
          let refused : description_fault d ≡ Some (Plan BaysOutOfRange) = ap (places_fault d.places) (cond-false (in_range n m) _ _ no-range) in
          let z : ◌≡◌ {A = ℕ} 0 1 = cc in
          absurd (let y : ⊥ = omega arith in y)
    ] in
    (range_fitting k (lawful_of d.field) n m range, none_sound k (powers k n m) d.places)
