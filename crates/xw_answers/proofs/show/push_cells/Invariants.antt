use Rattle.std.proofs.Common.{◌≡◌, ◌+◌, ◌*◌, ◌++◌, flat_map, length, take}
use Rattle.xw_answers.specs.Show.{cell_pair, cell_in, columns}
use Rattle.xw_answers.proofs.show.push_cells.Given as goal

abbrev pub invariant-loop-before : goal.invariant-loop-before
invariant-loop-before l = record {
  is : l.line ≡ l.initial.line ++ flat_map (λ before. cell_pair l.grid (cell_in l.row before)) (take l.before (columns l.grid));
  long : length l.line ≡ length l.initial.line + 2 * l.before;
}
