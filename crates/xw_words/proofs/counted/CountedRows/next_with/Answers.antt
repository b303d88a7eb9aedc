use Rattle.std.proofs.Common.{rules}
use Rattle.xw_words.proofs.counted.CountedRows.next_with.Goals as goal

pub returns-clause-found : goal.returns-clause-found
returns-clause-found c = search rules
