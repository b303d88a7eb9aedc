use Rattle.std.proofs.Common.{rules}
use Rattle.xw_files.proofs.puz.sums.Sums.wrong_in.Goals as goal

pub returns : goal.returns
returns c = search rules
