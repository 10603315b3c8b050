-- What a command found at a cell or a place: how each line reads.
use Rattle.std.specs.Prelude.{ℕ, List, ◌++◌, codes, decimal}
use Rattle.account.specs.declared.finding.Finding.{Finding}
use Rattle.account.specs.declared.finding.Finding.TheVariants.{Word, Surveyed, LostCell, TornCell, LostAt, TornAt, Got}

abbrev pub finding_text : Finding → List ℕ
finding_text (Word bay place word) = codes "bay " ++ (decimal bay ++ (codes " place " ++ (decimal place ++ (codes ": " ++ decimal word))))
finding_text (Surveyed lost) = codes "lost cells " ++ decimal lost
finding_text (LostCell place bay) = codes "place " ++ (decimal place ++ (codes " bay " ++ decimal bay))
finding_text (TornCell place bay) = codes "place " ++ (decimal place ++ (codes " bay " ++ (decimal bay ++ codes ", the place is torn")))
finding_text (LostAt place cells) = codes "place " ++ (decimal place ++ (codes ": " ++ (decimal cells ++ codes " cells lost")))
finding_text (TornAt place cells) = codes "place " ++ (decimal place ++ (codes ": " ++ (decimal cells ++ codes " cells torn")))
finding_text (Got bytes) = codes "got " ++ (decimal bytes ++ codes " bytes")
