use Rattle.std.proofs.Common.{◌≡◌, take, map, length}
use Rattle.xw_grid.specs.Grid.{cells}
use Rattle.xw_feas.specs.Written.{with_entry_of}
use Rattle.xw_feas.proofs.notes.note.Given as goal

abbrev pub invariant-loop-index : goal.invariant-loop-index
invariant-loop-index l = record {
  long : length l.noted ≡ length l.grid.squares;
  front : take l.index l.noted ≡ map (with_entry_of l.grid) (take l.index (cells l.grid));
}
