use Rattle.std.proofs.Common.{rules}
use Rattle.xw_grid.proofs.grid.Grid.index.Goals as goal

pub returns-then-contains-clause-index : goal.returns-then-contains-clause-index
returns-then-contains-clause-index c = search rules

pub returns-then-contains-clause-within : goal.returns-then-contains-clause-within
returns-then-contains-clause-within c = search rules
