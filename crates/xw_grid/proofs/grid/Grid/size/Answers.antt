use Rattle.std.proofs.Common.{rules}
use Rattle.xw_grid.proofs.grid.Grid.size.Goals as goal

pub returns-clause-size : goal.returns-clause-size
returns-clause-size c = search rules
