use Rattle.std.proofs.Common.{◌≡◌, drop}
use Rattle.std.specs.Prelude.{find}
use Rattle.xw_grid.specs.Grid.{cells}
use Rattle.xw_files.specs.Finished.{is_empty_cell, empty_cell}
use Rattle.xw_files.proofs.finished.empty_cell.Given as goal

abbrev pub invariant-loop-index : goal.invariant-loop-index
invariant-loop-index l = find (is_empty_cell l.grid) (drop l.index (cells l.grid)) ≡ empty_cell l.grid
