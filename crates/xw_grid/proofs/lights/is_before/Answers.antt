use Rattle.std.proofs.Common.{rules}
use Rattle.xw_grid.proofs.lights.is_before.Goals as goal

pub returns-then-name-other : goal.returns-then-name-other
returns-then-name-other c = search rules
