use Rattle.std.proofs.Common.{rules}
use Rattle.xw_grid.proofs.grid.Grid.height.Goals as goal

pub returns-clause-height : goal.returns-clause-height
returns-clause-height c = search rules
