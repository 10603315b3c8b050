use Rattle.std.proofs.Common.{◌≡◌, true, map, take}
use Rattle.rack.specs.Racks.{all_like, EachFitting}
use Rattle.rack.proofs.rack.all_have.Given as goal

abbrev pub invariant-loop-shelf : goal.invariant-loop-shelf
invariant-loop-shelf g l =
    (all_like l.numbers (map g.S.Shelf.table (take l.shelf-index l.shelves)) ≡ true) × EachFitting g.S.Shelf.table (take l.shelf-index l.shelves)
