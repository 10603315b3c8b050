-- Which descriptions a text can say.
use Rattle.std.specs.Prelude.{◌≡◌, ℕ, ◌<◌, Bool, true, ◌&&◌, List, [], ◌∷◌, length}
use Rattle.std.specs.List.{AllByRecursion}
use Rattle.command.specs.Tokens.{solid}
use Rattle.description.specs.Describing.{Planned, powers, groups, written, Under, disks, archives, Plain}

-- no byte of it is a blank
abbrev pub each_solid : List ℕ → Bool
each_solid [] = true
each_solid (c ∷ cs) = solid c && each_solid cs

-- a text that can be one token: it is not empty, and has no blank
abbrev pub IsToken : List ℕ → Type 0
IsToken t = (0 < length t) × (each_solid t ≡ true)

-- a row of so many codes
abbrev pub HasCodes : ℕ → List ℕ → Type 0
HasCodes data_bays row = length row ≡ data_bays

-- a written plan has a row for each check, and in each of them a code for each data bay
abbrev pub HasRows : ℕ → ℕ → Planned → Type 0
HasRows data_bays check_bays powers = Unit {0}
HasRows data_bays check_bays groups = Unit {0}
HasRows data_bays check_bays (written rows) = (length rows ≡ check_bays) × AllByRecursion (HasCodes data_bays) rows

-- there is a path, and each path is a token
abbrev pub ArePaths : List (List ℕ) → Type 0
ArePaths paths = (0 < length paths) × AllByRecursion IsToken paths

abbrev pub HasPaths : Under → Type 0
HasPaths (disks paths) = ArePaths paths
HasPaths (archives paths) = ArePaths paths

-- the rows of a written plan are as many and as long as its numbers say, and each path is a token
pub record Printable (d : Plain) : Type 0 where
  pub rows : HasRows d.data_count d.check_count d.checks
  pub paths : HasPaths d.under
