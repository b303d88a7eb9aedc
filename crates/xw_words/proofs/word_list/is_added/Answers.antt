use Rattle.std.proofs.Common.{rules}
use Rattle.xw_words.proofs.word_list.is_added.Goals as goal

pub returns-in-Err : goal.returns-in-Err
returns-in-Err c = search rules
