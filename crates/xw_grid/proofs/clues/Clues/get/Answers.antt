use Rattle.std.proofs.Common.{rules}
use Rattle.xw_grid.proofs.clues.Clues.get.Goals as goal

pub returns-in-Down : goal.returns-in-Down
returns-in-Down c = search rules
