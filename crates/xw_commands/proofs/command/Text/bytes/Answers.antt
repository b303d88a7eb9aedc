use Rattle.std.proofs.Common.{rules}
use Rattle.xw_commands.proofs.command.Text.bytes.Goals as goal

pub returns : goal.returns
returns c = search rules
