-- How many bays a plan may have.
use Rattle.std.specs.Prelude.{ℕ}

abbrev pub most_data : ℕ
most_data = 15

abbrev pub most_checks : ℕ
most_checks = 8
