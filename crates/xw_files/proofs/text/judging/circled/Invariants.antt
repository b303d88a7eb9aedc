use Rattle.std.proofs.Common.{◌≡◌, drop}
use Rattle.std.specs.Prelude.{find}
use Rattle.xw_grid.specs.Grid.{cells}
use Rattle.xw_files.specs.Part.{is_circled_open}
use Rattle.xw_files.proofs.text.judging.circled.Given as goal

abbrev pub invariant-loop-index : goal.invariant-loop-index
invariant-loop-index l = find (is_circled_open l.grid l.circles) (drop l.index (cells l.grid)) ≡ find (is_circled_open l.grid l.circles) (cells l.grid)
