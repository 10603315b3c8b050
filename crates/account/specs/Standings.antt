-- How an archive stands: how each line reads.
use Rattle.std.specs.Prelude.{ℕ, List, ◌++◌, codes, decimal}
use Rattle.account.specs.declared.standing.Standing.{Standing}
use Rattle.account.specs.declared.standing.Standing.TheVariants.{Running, Filled, Cells, Cost, Torn, Verified}

abbrev pub standing_text : Standing → List ℕ
standing_text (Running bay filled) = codes "bay " ++ (decimal bay ++ (codes ": running, filled " ++ decimal filled))
standing_text (Filled bay filled) = codes "bay " ++ (decimal bay ++ (codes ": filled " ++ decimal filled))
standing_text (Cells told lost torn) = codes "cells: told " ++ (decimal told ++ (codes ", lost " ++ (decimal lost ++ (codes "; torn places " ++ decimal torn))))
standing_text (Cost bay cells) = codes "the loss of bay " ++ (decimal bay ++ (codes " would cost " ++ (decimal cells ++ codes " cells")))
standing_text (Torn place) = codes "place " ++ (decimal place ++ codes ": torn, its words disagree")
standing_text (Verified places torn) = codes "verified places " ++ (decimal places ++ (codes ", torn " ++ decimal torn))
