use Rattle.std.proofs.Common.{rules}
use Rattle.xw_feas.proofs.edit.RefusalFromGridFault.from.Goals as goal

pub returns : goal.returns
returns c = search rules
