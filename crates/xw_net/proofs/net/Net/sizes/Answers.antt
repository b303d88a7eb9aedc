use Rattle.std.proofs.Common.{rules}
use Rattle.xw_net.proofs.net.Net.sizes.Goals as goal

pub returns-clause-rows : goal.returns-clause-rows
returns-clause-rows c = search rules
