use Rattle.std.proofs.Common.{◌≡◌, drop, length}
use Rattle.std.specs.Prelude.{fold, All}
use Rattle.xw_grid.specs.Grid.{IsSquare}
use Rattle.xw_grid.specs.Edit.{turn_at}
use Rattle.xw_grid.proofs.grid.blocks.turn_each.Given as goal

-- turning the remaining squares gives what turning all of the old squares gives
abbrev pub invariant-loop-index : goal.invariant-loop-index
invariant-loop-index l = record {
  long : length l.squares ≡ length l.initial.squares;
  letters : All IsSquare l.squares;
  turned : fold (turn_at l.blocked) l.squares (drop l.index-index l.indices) ≡ fold (turn_at l.blocked) l.initial.squares l.indices;
}
