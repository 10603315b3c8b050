use Rattle.std.proofs.Common.{◌≡◌, ◌++◌, drop, map, vec_items}
use Rattle.description.specs.Printing.{printed, path_lines}
use Rattle.description.proofs.printing.push_paths.Given as goal

-- what is there and the lines of the paths left make up the text
abbrev pub invariant-loop-path : goal.invariant-loop-path
invariant-loop-path l =
    l.text.items ++ printed (path_lines l.first (map vec_items (drop l.path-index l.paths))) ≡ l.fn.text.items ++ printed (path_lines l.first (map vec_items l.paths))
