use Rattle.std.proofs.Common.{arith, rules}
use Rattle.std.proofs.lemmas.Grind.{common_steps}
use Rattle.xw_grid.proofs.grid.Grid.cell_at.Goals as goal

pub returns-clause-cell : goal.returns-clause-cell
returns-clause-cell c = search rules

pub returns-clause-inside : goal.returns-clause-inside
returns-clause-inside c = grind (arith, common_steps)
