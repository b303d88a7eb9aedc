use Rattle.std.proofs.Common.{◌≡◌, map, take}
use Rattle.xw_grid.specs.Grid.{cells}
use Rattle.xw_files.specs.Puz.Writing.{mark_of}
use Rattle.xw_files.proofs.puz.circles.marks_of.Given as goal

abbrev pub invariant-loop-index : goal.invariant-loop-index
invariant-loop-index l = l.marks.items ≡ map (mark_of l.grid l.circles) (take l.index (cells l.grid))
