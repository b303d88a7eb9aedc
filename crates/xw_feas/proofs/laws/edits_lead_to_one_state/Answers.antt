use Rattle.xw_feas.proofs.LawLemmas.{one_end}
use Rattle.xw_feas.proofs.laws.edits_lead_to_one_state.Goals as goal

pub returns : goal.returns
returns c = one_end
