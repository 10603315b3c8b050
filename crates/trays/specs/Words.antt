-- What a tray means: one bay over a caller's words.
use Rattle.std.specs.Prelude.{◌≡◌, ℕ, Bool, cond, ◌&&◌, List, length, Ok, Err, Result, nat_le, slice_index}
use Rattle.shelf.specs.Bounds.{most_places, most_limit}
use Rattle.shelf.specs.Table.{Table}
use Rattle.trays.specs.declared.misfit.Misfit.{Misfit}
use Rattle.trays.specs.declared.misfit.Misfit.TheVariants.{Limit, Length}
use Rattle.trays.specs.declared.tray.Tray.{Tray}
use Rattle.trays.specs.Device.{Device, one_bay, slot, least_limit}

-- what a blank slot is stored as
abbrev pub blank_word : ℕ
blank_word = 4294967295

abbrev pub limit_fits : ℕ → Bool
limit_fits limit = nat_le least_limit limit && nat_le limit most_limit

abbrev pub length_fits : ℕ → Bool
length_fits n = nat_le 1 n && nat_le n most_places

-- the limit is tested first, then how many words there are
abbrev pub checked : List ℕ → ℕ → Result Unit Misfit
checked ws limit = cond (limit_fits limit) (cond (length_fits (length ws)) (Ok tt) (Err Length)) (Err Limit)

abbrev pub fits : List ℕ → ℕ → Bool
fits ws limit = limit_fits limit && length_fits (length ws)

abbrev pub words_device : List ℕ → ℕ → Device
words_device ws limit = record { limit = limit; places = length ws; cell = λ p. slot limit (slice_index ws p) }

abbrev pub tray_table : Tray → Table
tray_table t = one_bay (fits t.words.now t.limit) (words_device t.words.now t.limit)

-- a tray is always in order
abbrev pub InOrder : Tray → Type 0
InOrder t = Unit {0}

-- a tray keeps its limit, and the memory that it is over
pub record SameTray (s t : Tray) : Type 0 where
  pub limit : t.limit ≡ s.limit
  pub memory : t.words.ghost_name ≡ s.words.ghost_name
