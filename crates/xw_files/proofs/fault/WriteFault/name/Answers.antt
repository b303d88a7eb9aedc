use Rattle.std.proofs.Common.{rules}
use Rattle.xw_files.proofs.fault.WriteFault.name.Goals as goal

pub returns-in-Circled : goal.returns-in-Circled
returns-in-Circled c = search rules
