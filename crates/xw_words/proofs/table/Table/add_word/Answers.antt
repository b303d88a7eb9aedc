use Rattle.std.proofs.Common.{rules}
use Rattle.xw_words.proofs.table.Table.add_word.Goals as goal

pub returns-in-Some-clause-answer : goal.returns-in-Some-clause-answer
returns-in-Some-clause-answer c = search rules
