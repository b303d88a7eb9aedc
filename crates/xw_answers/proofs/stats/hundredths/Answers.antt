use Rattle.std.proofs.Common.{rules}
use Rattle.xw_answers.proofs.stats.hundredths.Goals as goal

pub returns : goal.returns
returns c = search rules
