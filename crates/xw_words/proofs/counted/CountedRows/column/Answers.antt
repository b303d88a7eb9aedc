use Rattle.std.proofs.Common.{rules}
use Rattle.xw_words.proofs.counted.CountedRows.column.Goals as goal

pub returns-clause-ticks : goal.returns-clause-ticks
returns-clause-ticks c = search rules
