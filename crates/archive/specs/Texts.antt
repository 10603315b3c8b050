-- What the account says of a command that was carried out: how each line reads.
use Rattle.std.specs.Prelude.{ℕ, Bool, true, false, not, cond, List, [], ◌∷◌, ◌++◌, filter, codes, decimal, vec_items, nat_eq}
use Rattle.std.specs.Cmp.Lexicographic.{pointwise}
use Rattle.std.specs.List.{flat_map, range_with_len}
use Rattle.command.specs.Wording.{field_name}
use Rattle.shelf.specs.Calls.{bit}
use Rattle.archive.specs.Fields.{arithmetic_of}
use Rattle.archive.specs.declared.loss.Loss.{Loss}
use Rattle.archive.specs.declared.report.Report.{Report}
use Rattle.archive.specs.declared.report.Report.TheVariants.{Described, Laid, Written, Lost}
use Rattle.archive.specs.declared.stripe.Rewrite.{Rewrite}

-- each of these numbers behind a blank
abbrev pub after_blanks : List ℕ → List ℕ
after_blanks ns = flat_map (λ n. codes " " ++ decimal n) ns

-- numbers with blanks between them; `none` where there is none
abbrev pub listing : List ℕ → List ℕ
listing [] = codes "none"
listing (n ∷ ns) = decimal n ++ after_blanks ns

-- the data bays whose words are told, or those whose words are not
abbrev pub data_bays : Bool → Loss → List ℕ
data_bays told l = filter (λ bay. cond told (bit l.told bay) (not (bit l.told bay))) (range_with_len 0 l.data_bays)

-- what the bays that are left tell
abbrev pub loss_text : Loss → List ℕ
loss_text l = codes "data bays told " ++ (listing (data_bays true l) ++ (codes ", not told " ++ listing (data_bays false l)))

-- whether the moved checks are the ones computed afresh
abbrev pub verdict : List ℕ → List ℕ → List ℕ
verdict moved afresh = cond (pointwise nat_eq moved afresh) (codes "the same") (codes "another")

-- the checks before and after a write, and those computed afresh
abbrev pub rewrite_text : Rewrite → List ℕ
rewrite_text w =
    codes "checks " ++ (listing (vec_items w.before) ++ (codes " to " ++ (listing (vec_items w.after) ++ (codes ", afresh " ++ (listing (vec_items w.afresh) ++ (codes ": " ++ verdict (vec_items w.after) (vec_items w.afresh)))))))

-- a line of the account
abbrev pub report_text : Report → List ℕ
report_text (Described d) =
    codes "archive: " ++ (field_name d.field ++ (codes " field of order " ++ (decimal (arithmetic_of d.field).order ++ (codes ", plan of powers, data bays " ++ (decimal d.data_bays ++ (codes ", check bays " ++ (decimal d.check_bays ++ (codes ", places " ++ decimal d.places))))))))
report_text (Laid place stripe) =
    codes "place " ++ (decimal place ++ (codes ": data " ++ (listing (vec_items stripe.words) ++ (codes ", checks " ++ listing (vec_items stripe.checks)))))
report_text (Written bay place word rewrite) =
    codes "place " ++ (decimal place ++ (codes ": bay " ++ (decimal bay ++ (codes " from " ++ (decimal rewrite.old ++ (codes " to " ++ (decimal word ++ (codes ", " ++ rewrite_text rewrite))))))))
report_text (Lost loss) = codes "lost bays " ++ (listing (vec_items loss.lost) ++ (codes ": " ++ loss_text loss))
