use Rattle.std.proofs.Common.{◌≡◌, map, drop}
use Rattle.xw_grid.specs.Clue.{no_clues}
use Rattle.xw_files.specs.Puz.Board.{with_clues}
use Rattle.xw_files.proofs.puz.read.clues_by.Given as goal

abbrev pub invariant-loop-index : goal.invariant-loop-index
invariant-loop-index l = with_clues l.clues (drop l.index l.lights) (map (λ text. text.now) (drop l.index l.texts)) ≡ with_clues no_clues l.lights (map (λ text. text.now) l.texts)
