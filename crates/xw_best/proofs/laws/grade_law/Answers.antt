use Rattle.xw_best.proofs.GradeLemmas.{fills_down, none_up}
use Rattle.xw_best.proofs.laws.grade_law.Goals as goal

pub returns-clause-fills : goal.returns-clause-fills
returns-clause-fills c = fills_down

pub returns-clause-none : goal.returns-clause-none
returns-clause-none c = none_up
