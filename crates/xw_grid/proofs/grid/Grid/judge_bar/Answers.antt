use Rattle.std.proofs.Common.{rules}
use Rattle.xw_grid.proofs.grid.Grid.judge_bar.Goals as goal

pub returns-then-not-contains-2-clause-refused : goal.returns-then-not-contains-2-clause-refused
returns-then-not-contains-2-clause-refused c = search rules
