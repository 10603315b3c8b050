use Rattle.std.proofs.Common.{◌≡◌, ◌++◌, [], ◌∷◌, drop, map}
use Rattle.std.specs.Fmt.{decimal}
use Rattle.description.specs.Printing.{printed, row_line, tokens_onto}
use Rattle.description.proofs.printing.push_row.Given as goal

-- what is there and the codes left make up the line
abbrev pub invariant-loop-code : goal.invariant-loop-code
invariant-loop-code l =
    l.text.items ++ tokens_onto (map decimal (drop l.code-index l.row)) [] ≡ l.fn.text.items ++ printed (row_line l.row ∷ [])
