use Rattle.std.proofs.Common.{◌≡◌, ◌+◌, ◌++◌, Ok, vec_items, vec_len}
use Rattle.command.specs.Cursors.{tokens_left}
use Rattle.command.specs.Numerals.{numerals}
use Rattle.command.specs.Outcome.{following}
use Rattle.command.proofs.number.numbers.Given as goal

-- the numbers read so far stand in front of those that the tokens left write
abbrev pub invariant-loop-token : goal.invariant-loop-token
invariant-loop-token l =
    numerals l.first (tokens_left l.fn.arguments) ≡ following (numerals (vec_len l.read + l.first) (tokens_left l.token-iterator)) (λ ns. Ok (vec_items l.read ++ ns))
