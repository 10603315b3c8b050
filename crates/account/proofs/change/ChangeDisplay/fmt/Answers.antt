use Rattle.std.proofs.Common.{rules}
use Rattle.account.proofs.change.ChangeDisplay.fmt.Goals as goal

-- each line reads as that of its change
pub returns-in-Created-clause-writes : goal.returns-in-Created-clause-writes
returns-in-Created-clause-writes g c = rw c.in-Created.is (search rules)

pub returns-in-Laid-clause-writes : goal.returns-in-Laid-clause-writes
returns-in-Laid-clause-writes g c = rw c.in-Laid.is (search rules)

pub returns-in-Exchanged-clause-writes : goal.returns-in-Exchanged-clause-writes
returns-in-Exchanged-clause-writes g c = rw c.in-Exchanged.is (search rules)
