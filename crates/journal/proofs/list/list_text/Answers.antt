use Rattle.std.proofs.Common.{◌≡◌, map, ap, ◌∙◌, arith}
use Rattle.std.specs.String.{string_bytes}
use Rattle.std.proofs.lemmas.List.{take_all}
use Rattle.journal.specs.Lists.{listed}
use Rattle.journal.proofs.Back.{list_read}
use Rattle.journal.proofs.list.list_text.Goals as goal

-- the whole list is written, and its tokens are the paths
pub returns-clause-read_back : goal.returns-clause-read_back
returns-clause-read_back c =
    let end = c.loop-path-test.false in
    list_read _ _ (c.loop-path.invariant ∙ ap (λ ps. listed (map string_bytes ps)) (take_all c.loop-path.path-index c.args.paths.now (omega arith)))
