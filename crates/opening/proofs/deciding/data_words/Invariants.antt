use Rattle.opening.specs.Words.{DataWords}
use Rattle.opening.proofs.deciding.data_words.Given as goal

abbrev pub invariant-loop-bay : goal.invariant-loop-bay
invariant-loop-bay l = DataWords l.bay l.cells l.words.items
