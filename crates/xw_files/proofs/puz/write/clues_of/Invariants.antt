use Rattle.std.proofs.Common.{◌≡◌, map, take}
use Rattle.xw_grid.specs.Puzzle.{clue_of}
use Rattle.xw_files.proofs.puz.write.clues_of.Given as goal

abbrev pub invariant-loop-index : goal.invariant-loop-index
invariant-loop-index l = map (λ text. text.now) l.texts.items ≡ map (clue_of l.clues) (take l.index l.lights)
