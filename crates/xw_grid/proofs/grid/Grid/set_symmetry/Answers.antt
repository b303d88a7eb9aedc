use Rattle.std.proofs.Common.{rules}
use Rattle.xw_grid.proofs.grid.Grid.set_symmetry.Goals as goal

pub returns-clause-ok : goal.returns-clause-ok
returns-clause-ok c = search rules
