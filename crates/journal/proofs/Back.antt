-- The paths of a list are read back from it.
use Rattle.std.proofs.Common.{◌≡◌, ℕ, List, [], ◌∷◌, ◌++◌, refl, ap, ◌∙◌, append_assoc}
use Rattle.std.specs.List.{AllByRecursion}
use Rattle.std.proofs.lemmas.List.Concat.{flat_map-cons}
use Rattle.command.specs.Tokens.{tokens}
use Rattle.description.specs.Printable.{IsToken}
use Rattle.description.proofs.Tokenizing.{one_token}
use Rattle.journal.specs.Lists.{listed}

pub listed_tokens : (ts : List (List ℕ)) → AllByRecursion IsToken ts → tokens (listed ts) ≡ ts
listed_tokens [] h = refl
listed_tokens (t ∷ ts) h =
    ap tokens (append_assoc t (10 ∷ []) (listed ts))
    ∙ one_token t (10 ∷ listed ts) h.0 refl
    ∙ ap (λ us. t ∷ us) (listed_tokens ts h.1)

pub list_read : (text : List ℕ) (ts : List (List ℕ)) → text ≡ listed ts → AllByRecursion IsToken ts → tokens text ≡ ts
list_read text ts e h = ap tokens e ∙ listed_tokens ts h
