use Rattle.std.proofs.Common.{rules}
use Rattle.xw_plain.proofs.plain.PlainFeasible.open.Goals as goal

pub returns-clause-err : goal.returns-clause-err
returns-clause-err c = search rules
