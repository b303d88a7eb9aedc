use Rattle.xw_feas.proofs.GreatestLemmas.{greatest_exists}
use Rattle.xw_feas.proofs.laws.feasible_family_exists.Goals as goal

pub returns : goal.returns
returns c = greatest_exists
