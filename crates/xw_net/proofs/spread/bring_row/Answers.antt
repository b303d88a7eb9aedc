use Rattle.std.proofs.Common.{arith}
use Rattle.std.proofs.lemmas.Grind.{common_steps}
use Rattle.xw_net.proofs.Nets.RowRoom.{bits_are}
use Rattle.xw_net.proofs.spread.bring_row.Goals as goal

pub returns-clause-here : goal.returns-clause-here
returns-clause-here c = grind (arith, common_steps, bits_are)

pub returns-clause-others : goal.returns-clause-others
returns-clause-others c = grind (arith, common_steps, bits_are)
