-- What is held at a place, and in an archive.
use Rattle.std.proofs.Common.{◌≡◌, ℕ, List, Option, ap₂}
use Rattle.command.specs.declared.command.FieldName.{FieldName}
use Rattle.archive.specs.Stripes.{Held}
use Rattle.archive.specs.Contents.{Kept}

-- equal words and equal checks are the same stripe
pub both-held : {ws vs cs ds : List ℕ} → ws ≡ vs → cs ≡ ds → ◌≡◌ {A = Held} (record { words = ws; checks = cs }) (record { words = vs; checks = ds })
both-held p q = ap₂ (λ (ws cs : List ℕ). record { words = ws; checks = cs }) p q

-- equal parts are the same archive
pub all-kept : {f g : FieldName} {n i m j : ℕ} {ps qs : List (Option Held)} → f ≡ g → n ≡ i → m ≡ j → ps ≡ qs → ◌≡◌ {A = Kept} (record { field = f; data_bays = n; check_bays = m; places = ps }) (record { field = g; data_bays = i; check_bays = j; places = qs })
all-kept p q r s = λ t. record { field = p t; data_bays = q t; check_bays = r t; places = s t }
