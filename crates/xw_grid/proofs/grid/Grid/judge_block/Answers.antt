use Rattle.std.proofs.Common.{rules}
use Rattle.xw_grid.proofs.grid.Grid.judge_block.Goals as goal

pub returns-then-is_occupied-clause-refused : goal.returns-then-is_occupied-clause-refused
returns-then-is_occupied-clause-refused c = search rules
