use Rattle.std.proofs.Common.{rules}
use Rattle.xw_desk.proofs.failure.run_status.Goals as goal

pub returns-in-Done : goal.returns-in-Done
returns-in-Done c = search rules
