use Rattle.std.proofs.Common.{◌≡◌, ◌+◌, ◌++◌, Ok, vec_items, vec_len}
use Rattle.tables.specs.Left.{fields_left}
use Rattle.tables.specs.Rows.{following, words_from}
use Rattle.tables.proofs.row.read_words.Given as goal

-- the words read so far stand in front of those that the fields left write
abbrev pub invariant-loop-field : goal.invariant-loop-field
invariant-loop-field l =
    words_from 2 (fields_left l.fn.rest) ≡ following (words_from (vec_len l.words + 2) (fields_left l.field-iterator)) (λ ns. Ok (vec_items l.words ++ ns))
