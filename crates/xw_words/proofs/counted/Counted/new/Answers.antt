use Rattle.std.proofs.Common.{rules}
use Rattle.xw_words.proofs.counted.Counted.new.Goals as goal

pub returns-clause-spent : goal.returns-clause-spent
returns-clause-spent c = search rules
