use Rattle.std.proofs.Common.{rules}
use Rattle.xw_desk.proofs.failure.ExitStatus.code.Goals as goal

pub returns-in-Format : goal.returns-in-Format
returns-in-Format c = search rules
