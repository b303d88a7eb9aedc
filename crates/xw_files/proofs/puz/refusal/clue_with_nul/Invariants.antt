use Rattle.std.proofs.Common.{◌≡◌, ◌+◌, ◌*◌, ◌≤◌, map, drop}
use Rattle.std.specs.Prelude.{flat_map}
use Rattle.xw_grid.specs.Grid.{cells}
use Rattle.xw_grid.specs.Light.{lights_at, lights_of}
use Rattle.xw_grid.specs.Puzzle.{clue_of}
use Rattle.xw_files.specs.Puz.Writing.{clue_with_nul}
use Rattle.xw_files.proofs.puz.refusal.clue_with_nul.Given as goal

abbrev pub invariant-loop-index : goal.invariant-loop-index
invariant-loop-index l =
    (clue_with_nul l.number (map (clue_of l.clues) (flat_map (lights_at l.grid) (drop l.index (cells l.grid)))) ≡ clue_with_nul 1 (map (clue_of l.clues) (lights_of l.grid)))
    × (l.number ≤ 1 + 2 * l.index)
