use Rattle.std.proofs.Common.{rules}
use Rattle.xw_grid.proofs.clues.Clues.new.Goals as goal

pub returns : goal.returns
returns c = search rules
