use Rattle.std.proofs.Common.{◌≡◌, drop}
use Rattle.std.specs.List.{list_any}
use Rattle.xw_grid.specs.Grid.{cells}
use Rattle.xw_files.specs.Finished.{is_barred_cell, has_bar}
use Rattle.xw_files.proofs.finished.has_bar.Given as goal

abbrev pub invariant-loop-index : goal.invariant-loop-index
invariant-loop-index l = list_any (is_barred_cell l.grid) (drop l.index (cells l.grid)) ≡ has_bar l.grid
