use Rattle.std.proofs.Common.{arith}
use Rattle.std.proofs.lemmas.Grind.{common_steps}
use Rattle.xw_net.proofs.renumber.move_row.Goals as goal

pub fill_row-requires-clause-empty : goal.fill_row-requires-clause-empty
fill_row-requires-clause-empty c = grind (arith, common_steps)

pub fill_row-requires-clause-room : goal.fill_row-requires-clause-room
fill_row-requires-clause-room c = grind (arith, common_steps)

pub returns-in-Some-clause-bits : goal.returns-in-Some-clause-bits
returns-in-Some-clause-bits c = grind (arith, common_steps)

pub returns-in-Some-clause-room : goal.returns-in-Some-clause-room
returns-in-Some-clause-room c = grind (arith, common_steps)

pub returns-in-None-clause-room : goal.returns-in-None-clause-room
returns-in-None-clause-room c = grind (arith, common_steps)
