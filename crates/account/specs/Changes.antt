-- What a command changed: how each line reads.
use Rattle.std.specs.Prelude.{ℕ, List, ◌++◌, codes, decimal}
use Rattle.account.specs.declared.change.Change.{Change}
use Rattle.account.specs.declared.change.Change.TheVariants.{Created, Laid, Written, Exchanged, Swept, Images, Put}

abbrev pub change_text : Change → List ℕ
change_text (Created bays places) = codes "created " ++ (decimal bays ++ (codes " blank images of " ++ (decimal places ++ codes " places")))
change_text (Laid places short) = codes "laid places " ++ (decimal places ++ (codes ", with cells that can't be read back " ++ decimal short))
change_text (Written bay place word) = codes "bay " ++ (decimal bay ++ (codes " place " ++ (decimal place ++ (codes ": written " ++ decimal word))))
change_text (Exchanged bay) = codes "bay " ++ (decimal bay ++ codes ": exchanged")
change_text (Swept bay whole mended lost stopped) = codes "bay " ++ (decimal bay ++ (codes ": whole " ++ (decimal whole ++ (codes ", mended " ++ (decimal mended ++ (codes ", lost " ++ (decimal lost ++ (codes ", stopped " ++ decimal stopped))))))))
change_text (Images written) = codes "images written " ++ decimal written
change_text (Put bytes places) = codes "put " ++ (decimal bytes ++ (codes " bytes over " ++ (decimal places ++ codes " places")))
