use Rattle.std.proofs.Common.{arith}
use Rattle.std.proofs.lemmas.Grind.{common_steps}
use Rattle.xw_net.proofs.net.Net.reserve_word.Goals as goal

pub returns-in_err-reserve_rows-clause-same : goal.returns-in_err-reserve_rows-clause-same
returns-in_err-reserve_rows-clause-same c = grind (arith, common_steps)

pub returns-clause-room : goal.returns-clause-room
returns-clause-room c = grind (arith, common_steps)

pub returns-clause-same : goal.returns-clause-same
returns-clause-same c = grind (arith, common_steps)
