-- What packing and unpacking promise.
use Rattle.std.specs.Prelude.{◌≡◌, ◌≢◌, ◌⊎◌, ℕ, ◌^◌, ◌<◌, ◌≤◌, List, ◌++◌, length, take, Some, None, vec_items, Option, Result, MatchResult, IfOk, IfSome, All, Vec}
use Rattle.std.specs.declared.alloc.Global.{Global}
use Rattle.packing.specs.declared.packing.Packing.{Packing}
use Rattle.packing.specs.declared.fault.PackFault.{PackFault}
use Rattle.packing.specs.declared.fault.PackFault.TheVariants.{TooLong, NoFile, Memory}
use Rattle.packing.specs.Packed.{limit, packed}
use Rattle.packing.specs.Unpacked.{unpacked, file_length, file_words}

-- the answer is the words of the bytes, or that the file is too long, just where it is; want of memory may come instead of the words
abbrev pub Packs : Packing → List ℕ → Result (Vec ℕ Global) PackFault → Type 0
Packs p bytes r =
    MatchResult r
    (λ v. (vec_items v ≡ packed p bytes) × (length bytes < 2 ^ 32))
    (λ e. ((e ≡ Memory) × (length bytes < 2 ^ 32)) ⊎ ((e ≡ TooLong) × (2 ^ 32 ≤ length bytes)))

-- The answer is the file that the words begin with, or that there is none, just where there is none. Want of memory may come instead, but
-- only where they begin with a length.
abbrev pub Unpacks : Packing → List ℕ → Result (Vec ℕ Global) PackFault → Type 0
Unpacks p ws r =
    MatchResult r
    (λ v. unpacked p ws ≡ Some (vec_items v))
    (λ e. ((e ≡ Memory) × (file_length p ws ≢ None)) ⊎ ((e ≡ NoFile) × (unpacked p ws ≡ None)))

-- What is known of the words that a file was packed in.
pub record WordsOf (p : Packing) (bytes words : List ℕ) : Type 0 where
  -- each is in the packing's range,
  pub in_range : All (λ w. w < limit p) words
  -- they are as many as the first of them tell, whatever comes after them,
  pub counted : (more : List ℕ) → file_words p (words ++ more) ≡ Some (length words)
  -- and whatever comes after them, unpacking gives the file back
  pub unpacked_again : (more : List ℕ) → unpacked p (words ++ more) ≡ Some bytes

-- the answer of a packing is such words
abbrev pub ReadsBack : Packing → List ℕ → Result (Vec ℕ Global) PackFault → Type 0
ReadsBack p bytes r = IfOk r (λ v. WordsOf p bytes (vec_items v))

-- a file that begins so is told by this many words, whatever comes after those that were asked
abbrev pub TellsFile : Packing → List ℕ → Option ℕ → Type 0
TellsFile p words r = IfSome r (λ n. (more : List ℕ) → unpacked p (take n (words ++ more)) ≡ unpacked p (words ++ more))
