use Rattle.xw_feas.proofs.GreatestLemmas.{greatest_is_feasible}
use Rattle.xw_feas.proofs.Support.{exact_when_none_unsupported}
use Rattle.xw_feas.proofs.laws.greatest_family_is_feasible.Goals as goal

pub returns-clause-family : goal.returns-clause-family
returns-clause-family c = greatest_is_feasible

pub returns-clause-choices : goal.returns-clause-choices
returns-clause-choices c = exact_when_none_unsupported
