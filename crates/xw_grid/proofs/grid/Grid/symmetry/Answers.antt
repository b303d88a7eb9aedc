use Rattle.std.proofs.Common.{rules}
use Rattle.xw_grid.proofs.grid.Grid.symmetry.Goals as goal

pub returns : goal.returns
returns c = search rules
