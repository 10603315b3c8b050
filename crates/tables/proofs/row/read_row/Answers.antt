use Rattle.std.proofs.Common.{arith, rules, Ok, None, Some}
use Rattle.std.proofs.lemmas.Grind.{common_steps}
use Rattle.tables.proofs.Printed.{reads_back}
use Rattle.tables.proofs.row.read_row.Goals as goal
use Rattle.tables.proofs.row.read_row.Goals.{then-is_empty-via-then-is_empty, then-is_empty-via-else-is_empty+then-is_heading}

-- each answer is what the line gives, so it is what a printed row is read as
pub returns-then-is_empty-clause-read_back : goal.returns-then-is_empty-clause-read_back
returns-then-is_empty-clause-read_back c = reads_back c.args.line.now (Ok None) (grind (arith, common_steps))

pub returns-in_err-read_fields-clause-read_back : goal.returns-in_err-read_fields-clause-read_back
returns-in_err-read_fields-clause-read_back c = reads_back c.args.line.now c.from_residual.result (search rules)

pub returns-clause-read_back : goal.returns-clause-read_back
returns-clause-read_back c = reads_back c.args.line.now (Ok (Some c.in_ok-read_fields.field-0)) (search rules)
