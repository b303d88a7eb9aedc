use Rattle.std.proofs.Common.{rules}
use Rattle.xw_grid.proofs.grid.Grid.squares.Goals as goal

pub returns-clause-squares : goal.returns-clause-squares
returns-clause-squares c = search rules
