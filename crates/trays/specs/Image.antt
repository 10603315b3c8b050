-- What an image tray means: one bay over a caller's bytes. An image has two sections, marks and then words, each after its count in two
-- bytes, low byte first. The counts are equal and at least 1, and nothing follows.
use Rattle.std.specs.Prelude.{◌≡◌, ℕ, ◌+◌, ◌*◌, ◌/◌, ◌%◌, ◌<◌, Bool, cond, ◌&&◌, List, ◌∷◌, ◌++◌, length, replicate, Ok, Err, Result, ◌==◌, nat_le, slice_index, slice_set}
use Rattle.std.proofs.Math.Seq.{paste}
use Rattle.shelf.specs.Table.{Table, Cell, blank, holds}
use Rattle.trays.specs.declared.misfit.Misfit.{Misfit}
use Rattle.trays.specs.declared.misfit.Misfit.TheVariants.{Layout}
use Rattle.trays.specs.declared.image.ImageTray.{ImageTray}
use Rattle.trays.specs.Device.{Device, one_bay}

-- the limit of an image tray: its words are bytes
abbrev pub byte_limit : ℕ
byte_limit = 256

-- the count in the two bytes from i on
abbrev pub counted : List ℕ → ℕ → ℕ
counted bytes i = slice_index bytes i + 256 * slice_index bytes (i + 1)

-- how many places the bytes have, if they are an image
abbrev pub count_of : List ℕ → ℕ
count_of bytes = counted bytes 0

-- where the mark and the word of a place stand
abbrev pub mark_at : ℕ → ℕ
mark_at p = 2 + p

abbrev pub word_at : List ℕ → ℕ → ℕ
word_at bytes p = 4 + count_of bytes + p

abbrev pub is_image : List ℕ → Bool
is_image bytes =
    nat_le 1 (count_of bytes)
    && (length bytes == 4 + 2 * count_of bytes && counted bytes (2 + count_of bytes) == count_of bytes)

abbrev pub laid_out : List ℕ → Result Unit Misfit
laid_out bytes = cond (is_image bytes) (Ok tt) (Err Layout)

-- mark 1 is filled, any other blank; a byte is its own remainder by 256
abbrev pub marked : ℕ → ℕ → Cell
marked mark byte = cond (mark == 1) (holds (byte % byte_limit)) blank

abbrev pub image_device : List ℕ → Device
image_device bytes = record {
  limit = byte_limit;
  places = count_of bytes;
  cell = λ p. marked (slice_index bytes (mark_at p)) (slice_index bytes (word_at bytes p));
}

abbrev pub bytes_table : List ℕ → Table
bytes_table bytes = one_bay (is_image bytes) (image_device bytes)

abbrev pub image_table : ImageTray → Table
image_table t = bytes_table t.bytes.now

-- an image tray is always in order
abbrev pub InOrder : ImageTray → Type 0
InOrder t = Unit {0}

-- the bytes with a word at a place, and mark 1
abbrev pub filling : List ℕ → ℕ → ℕ → List ℕ
filling bytes p w = slice_set (slice_set bytes (mark_at p) 1) (word_at bytes p) w

-- the bytes with the first n marks 0
abbrev pub unmarked : ℕ → List ℕ → List ℕ
unmarked n bytes = paste bytes 2 (replicate n 0) n

-- an image tray keeps the memory that it is over
abbrev pub SameMemory : ImageTray → ImageTray → Type 0
SameMemory s t = t.bytes.ghost_name ≡ s.bytes.ghost_name

-- a section with this many places, each 0, after its count
abbrev pub blank_section : ℕ → List ℕ
blank_section n = n % 256 ∷ n / 256 ∷ replicate n 0

-- the bytes of an image with this many places, all blank: the marks, then the words
abbrev pub blank_image : ℕ → List ℕ
blank_image n = blank_section n ++ blank_section n

-- the bytes have this many places, each of them blank, and are an image where there is one at least
pub record BlankImage (n : ℕ) (bytes : List ℕ) : Type 0 where
  pub image : is_image bytes ≡ nat_le 1 n
  pub count : count_of bytes ≡ n
  pub cells : (p : ℕ) → p < n → (image_device bytes).cell p ≡ blank
