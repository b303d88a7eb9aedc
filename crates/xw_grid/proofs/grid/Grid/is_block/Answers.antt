use Rattle.std.proofs.Common.{rules}
use Rattle.xw_grid.proofs.grid.Grid.is_block.Goals as goal

pub returns-in-Some-Block : goal.returns-in-Some-Block
returns-in-Some-Block c = search rules

pub returns-in_default : goal.returns-in_default
returns-in_default c = search rules

pub returns-in_default-2 : goal.returns-in_default-2
returns-in_default-2 c = search rules
