use Rattle.std.proofs.Common.{rules}
use Rattle.xw_grid.proofs.grid.Grid.width.Goals as goal

pub returns-clause-width : goal.returns-clause-width
returns-clause-width c = search rules
