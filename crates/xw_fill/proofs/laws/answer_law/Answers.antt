use Rattle.xw_fill.proofs.LawLemmas.{answer_is_one, end_is_one}
use Rattle.xw_fill.proofs.laws.answer_law.Goals as goal

pub returns-clause-answer : goal.returns-clause-answer
returns-clause-answer c = answer_is_one

pub returns-clause-end : goal.returns-clause-end
returns-clause-end c = end_is_one
