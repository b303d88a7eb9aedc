use Rattle.std.proofs.Common.{rules}
use Rattle.xw_files.proofs.fault.ReadFault.name.Goals as goal

pub returns-in-GextSize : goal.returns-in-GextSize
returns-in-GextSize c = search rules
