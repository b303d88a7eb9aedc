use Rattle.xw_fill.proofs.ReasonExists.{reason_exists}
use Rattle.xw_fill.proofs.laws.reason_law.Goals as goal

pub returns : goal.returns
returns c = reason_exists
