-- A table with a place of any words, of which any cells are left.
use Rattle.std.proofs.Common.{◌≡◌, ℕ, ◌+◌, ◌≢◌, Bool, true, false, cond, List, refl, arith}
use Rattle.std.specs.Prelude.{MatchBool}
use Rattle.field.specs.Arithmetic.{Arithmetic}
use Rattle.plan.specs.Coefficients.{Coefficients}
use Rattle.plan.specs.Rows.{row, dot, Vector}
use Rattle.shelf.specs.Table.{Table, Cell, blank, holds}
use Rattle.array.specs.Decoding.{Gives}
use Rattle.array.proofs.Cells.{not_both}
use Rattle.array.proofs.Shapes.{matched_both}
use Rattle.worked.specs.Places.{among, Possible}

-- the cell of a bay that is left or not
abbrev cell_left : Bool → ℕ → Cell
cell_left on w = cond on (holds w) blank

gives_left : (k : Arithmetic) (x : Coefficients) (b : ℕ) (v : List ℕ) (on : Bool) → Gives k x b v (cell_left on (dot k (row x b) v))
gives_left k x b v true = refl
gives_left k x b v false = tt

filled_left : (on : Bool) (w : ℕ) → MatchBool on (cell_left on w ≢ blank) (cell_left on w ≡ blank)
filled_left true w = λ e. not_both (holds w) w e refl
filled_left false w = refl

-- one place, where the bays left hold what their rows give on the words
pub possible : (k : Arithmetic) (x : Coefficients) (v left : List ℕ) → Vector k x.n v → Possible k x v left
possible k x v left hv = (
  t,
  0,
  record {
    matched = matched_both k x t refl (omega arith);
    there = omega arith;
    agrees = record { vector = hv; gives = λ b few. gives_left k x b v (among left b) };
    cells = λ b few. filled_left (among left b) (dot k (row x b) v);
  },
)
  where
    t : Table
    t = record {
      bays = x.n + x.m;
      places = 1;
      limit = k.order;
      cell = λ b p. cell_left (among left b) (dot k (row x b) v);
      running = λ b. true;
    }
