-- The list of the files of a change.
use Rattle.std.specs.Prelude.{ℕ, List, [], ◌∷◌, ◌++◌}
use Rattle.std.specs.List.{flat_map}

-- each path in a line of its own
abbrev pub listed : List (List ℕ) → List ℕ
listed paths = flat_map (λ path. path ++ 10 ∷ []) paths
