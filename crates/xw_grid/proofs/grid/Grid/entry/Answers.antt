use Rattle.std.proofs.Common.{rules}
use Rattle.xw_grid.proofs.grid.Grid.entry.Goals as goal

pub returns-in-Some-Open-clause-entry : goal.returns-in-Some-Open-clause-entry
returns-in-Some-Open-clause-entry c = search rules
