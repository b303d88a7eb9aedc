use Rattle.std.proofs.Common.{rules}
use Rattle.xw_feas.proofs.word_iter.Spelled.len.Goals as goal

pub returns-in-Listed : goal.returns-in-Listed
returns-in-Listed c = search rules
