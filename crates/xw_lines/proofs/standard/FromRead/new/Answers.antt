use Rattle.std.proofs.Common.{rules}
use Rattle.xw_lines.proofs.standard.FromRead.new.Goals as goal

pub returns-clause-end : goal.returns-clause-end
returns-clause-end g c = search rules

pub returns-clause-transcript : goal.returns-clause-transcript
returns-clause-transcript g c = search rules
