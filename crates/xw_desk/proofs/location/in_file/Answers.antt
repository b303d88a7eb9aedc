use Rattle.std.proofs.Common.{rules}
use Rattle.xw_desk.proofs.location.in_file.Goals as goal

pub returns-in-BadSum : goal.returns-in-BadSum
returns-in-BadSum c = search rules
