-- A new array is in order, and every cell of it is blank.
use Rattle.std.specs.Prelude.{◌≡◌, ℕ, List, length, replicate}
use Rattle.std.specs.Borrow.{MutBor}
use Rattle.field.specs.Arithmetic.{Arithmetic}
use Rattle.plan.specs.Coefficients.{Coefficients}
use Rattle.shelf.specs.Table.{Table, AllBlank}
use Rattle.trays.specs.declared.tray.Tray.{Tray}
use Rattle.trays.specs.Words.{blank_word}
use Rattle.layers.specs.declared.pair.Pair.{Pair}
use Rattle.array.specs.declared.coded.Array.{Array}
use Rattle.array.specs.Tables.{array_table, ArrayOrder}

abbrev pub IsNew : {S P : Type 0} → (S → Table) → (S → Type 0) → Arithmetic → (P → Coefficients) → Array S P → Type 0
IsNew table sound k coefficients a = ArrayOrder table sound k coefficients a × AllBlank (array_table table k coefficients a)

-- A tray over a caller's words, all of which are blank, with a limit.
pub record BlankOver (limit : ℕ) (memory : MutBor (List ℕ)) (t : Tray) : Type 0 where
  pub bound : t.limit ≡ limit
  pub words : t.words.now ≡ replicate (length memory.now) blank_word
  pub same : t.words.ghost_name ≡ memory.ghost_name

-- What the array is made of: the plan, and a tray over the words of each caller, in turn, with the order of the field as limit.
abbrev pub MadeOf : {P : Type 0} → Arithmetic → (first second third : MutBor (List ℕ)) → P → Array (Pair Tray (Pair Tray Tray)) P → Type 0
MadeOf k first second third plan a =
    (a.plan ≡ plan) × BlankOver k.order first a.below.first × BlankOver k.order second a.below.second.first × BlankOver k.order third a.below.second.second
