use Rattle.std.proofs.Common.{rules}
use Rattle.xw_words.proofs.table.Table.judge_add.Goals as goal

pub returns-in-Some-2 : goal.returns-in-Some-2
returns-in-Some-2 c = search rules
