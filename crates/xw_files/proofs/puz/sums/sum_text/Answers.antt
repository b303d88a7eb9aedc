use Rattle.std.proofs.Common.{arith}
use Rattle.xw_files.proofs.PuzLemmas.SumLemmas.{sum_steps}
use Rattle.xw_files.proofs.puz.sums.sum_text.Goals as goal

pub returns-else-is_empty : goal.returns-else-is_empty
returns-else-is_empty c = grind (arith, sum_steps)
