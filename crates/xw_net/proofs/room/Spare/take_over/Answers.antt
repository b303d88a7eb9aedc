use Rattle.std.proofs.Common.{arith}
use Rattle.std.proofs.lemmas.Grind.{common_steps}
use Rattle.xw_net.proofs.room.Spare.take_over.Goals as goal

pub returns-clause-rows : goal.returns-clause-rows
returns-clause-rows g c = grind (arith, common_steps)

pub returns-clause-base : goal.returns-clause-base
returns-clause-base g c = grind (arith, common_steps)

pub returns-clause-entered : goal.returns-clause-entered
returns-clause-entered g c = grind (arith, common_steps)
