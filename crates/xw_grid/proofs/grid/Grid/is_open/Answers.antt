use Rattle.std.proofs.Common.{rules}
use Rattle.xw_grid.proofs.grid.Grid.is_open.Goals as goal

pub returns-in_default : goal.returns-in_default
returns-in_default c = search rules
