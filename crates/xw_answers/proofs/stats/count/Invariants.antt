use Rattle.std.proofs.Common.{◌≡◌, take}
use Rattle.std.specs.List.{count_by}
use Rattle.xw_grid.specs.Grid.{cells}
use Rattle.xw_answers.specs.Stats.{is_counted}
use Rattle.xw_answers.proofs.stats.count.Given as goal

abbrev pub invariant-loop-index : goal.invariant-loop-index
invariant-loop-index l = l.count ≡ count_by (is_counted l.grid l.tally) (take l.index (cells l.grid))
