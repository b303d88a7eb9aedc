use Rattle.std.proofs.Common.{rules}
use Rattle.xw_desk.proofs.failure.Failure.status.Goals as goal

pub returns-in-File : goal.returns-in-File
returns-in-File c = search rules
