use Rattle.std.proofs.Common.{rules}
use Rattle.xw_answers.proofs.escape.meaning.Goals as goal

pub returns-in-114 : goal.returns-in-114
returns-in-114 c = search rules
