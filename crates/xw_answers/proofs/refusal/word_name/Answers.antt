use Rattle.std.proofs.Common.{rules}
use Rattle.xw_answers.proofs.refusal.word_name.Goals as goal

pub returns-in-Known : goal.returns-in-Known
returns-in-Known c = search rules
