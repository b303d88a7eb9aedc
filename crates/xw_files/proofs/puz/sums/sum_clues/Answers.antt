use Rattle.std.proofs.Common.{arith}
use Rattle.std.proofs.lemmas.Grind.{common_steps}
use Rattle.xw_files.proofs.puz.sums.sum_clues.Goals as goal

pub loop-clue-preserved : goal.loop-clue-preserved
loop-clue-preserved c = grind (arith, common_steps)
