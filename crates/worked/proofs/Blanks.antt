-- Shelves side by side are blank where each of them is.
use Rattle.std.proofs.Common.{◌≡◌, ◌+◌, ◌-◌, sym, inl, inr, ◌∙◌, ap, subst, arith}
use Rattle.std.proofs.lemmas.Bool.{cases_lt}
use Rattle.shelf.specs.Table.{Table, AllBlank}
use Rattle.trays.specs.declared.tray.Tray.{Tray}
use Rattle.trays.specs.Words.{tray_table}
use Rattle.layers.specs.declared.pair.Pair.{Pair}
use Rattle.layers.specs.Pairs.{paired, pair_table}
use Rattle.layers.proofs.Beside.{fit_table, fit_by_bay, fits_places, cell_first, cell_second}

-- each bay of a pair is one of a shelf of it
pair_blank : (s t : Table) → AllBlank s → AllBlank t → AllBlank (paired s t)
pair_blank s t first second b p few there =
    let fit = fit_by_bay s t b few in
    let together = fit_table s t fit in
    let bays : (paired s t).bays ≡ s.bays + t.bays = ap (λ x. x.bays) together in
    let places : (paired s t).places ≡ s.places = ap (λ x. x.places) together in
    let same = fits_places s t fit in
    elim (cases_lt b s.bays) [
      | inl in_first ↦ cell_first s t b p in_first ∙ first b p in_first (omega arith)
      | inr in_second ↦ cell_second s t b p in_second ∙ second (b - s.bays) p (omega arith) (omega arith)
    ]

-- three trays side by side, each of which is blank
pub three_blank : (below : Pair Tray (Pair Tray Tray)) (first second third : Tray) → below.first ≡ first → below.second.first ≡ second → below.second.second ≡ third
    → AllBlank (tray_table first) → AllBlank (tray_table second) → AllBlank (tray_table third) → AllBlank (pair_table tray_table (pair_table tray_table tray_table) below)
three_blank below first second third e f g a b c =
    pair_blank (tray_table below.first) (pair_table tray_table tray_table below.second) (subst (λ t. AllBlank (tray_table t)) (sym e) a)
    (pair_blank (tray_table below.second.first) (tray_table below.second.second) (subst (λ t. AllBlank (tray_table t)) (sym f) b) (subst (λ t. AllBlank (tray_table t)) (sym g) c))
