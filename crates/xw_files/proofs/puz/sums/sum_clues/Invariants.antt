use Rattle.std.proofs.Common.{◌≡◌, map, drop}
use Rattle.std.specs.Prelude.{flat_map}
use Rattle.xw_files.specs.Puz.Sums.{sum_from}
use Rattle.xw_files.proofs.puz.sums.sum_clues.Given as goal

abbrev pub invariant-loop-clue : goal.invariant-loop-clue
invariant-loop-clue l = sum_from l.sum (flat_map (λ clue. clue) (map (λ clue. clue.now) (drop l.clue-index l.clues))) ≡ sum_from l.start (flat_map (λ clue. clue) (map (λ clue. clue.now) l.clues))
