-- A refused call changes nothing, not even what no cell shows.
use Rattle.std.specs.Prelude.{◌≡◌, Some, None, Option}
use Rattle.shelf.specs.declared.refusal.Refusal.{Refusal}

-- the state before a call and the one after it, where `refusal` is why it is refused, if it is
abbrev pub LeftAlone : {S : Type 0} → Option Refusal → S → S → Type 0
LeftAlone (Some e) before after = after ≡ before
LeftAlone None before after = Unit {0}
