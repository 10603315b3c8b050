use Rattle.std.proofs.Common.{arith}
use Rattle.description.proofs.Printed.{codes_small}
use Rattle.description.proofs.printing.push_row.Goals as goal

-- each code of the row is a number of 32 bits
pub returns-clause-small : goal.returns-clause-small
returns-clause-small c = codes_small c.args.row.now (λ i. omega (arith, c.type_inv.row i))
