use Rattle.xw_fill.proofs.LawLemmas.{choice_is}
use Rattle.xw_fill.proofs.laws.choice_law.Goals as goal

pub returns : goal.returns
returns c = choice_is
