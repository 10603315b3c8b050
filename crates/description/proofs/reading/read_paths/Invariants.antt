use Rattle.std.proofs.Common.{◌≡◌, ◌++◌, Ok, map, vec_items}
use Rattle.description.specs.Cuts.{lines_left}
use Rattle.description.specs.Outcome.{following}
use Rattle.description.specs.Reading.{paths_in}
use Rattle.description.proofs.reading.read_paths.Given as goal

-- the paths read so far stand in front of those of the lines left
abbrev pub invariant-loop-line : goal.invariant-loop-line
invariant-loop-line l =
    paths_in l.first l.wanted (lines_left l.fn.lines) ≡ following (paths_in l.first l.wanted (lines_left l.line-iterator)) (λ ts. Ok (map vec_items l.paths.items ++ ts))
