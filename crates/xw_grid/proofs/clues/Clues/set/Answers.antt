use Rattle.std.proofs.Common.{rules}
use Rattle.xw_grid.proofs.clues.Clues.set.Goals as goal

pub returns-in_ok-keep-in-Across-clause-ok : goal.returns-in_ok-keep-in-Across-clause-ok
returns-in_ok-keep-in-Across-clause-ok c = search rules
