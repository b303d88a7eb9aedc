use Rattle.xw_feas.proofs.LawLemmas.{together_supported}
use Rattle.xw_feas.proofs.laws.families_join.Goals as goal

pub returns : goal.returns
returns c = together_supported
