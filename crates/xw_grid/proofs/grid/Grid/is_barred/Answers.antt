use Rattle.std.proofs.Common.{arith}
use Rattle.std.proofs.lemmas.Grind.{common_steps}
use Rattle.xw_grid.proofs.grid.Grid.is_barred.Goals as goal

pub returns-in-Right : goal.returns-in-Right
returns-in-Right c = grind (arith, common_steps)

pub returns-in-Below : goal.returns-in-Below
returns-in-Below c = grind (arith, common_steps)
