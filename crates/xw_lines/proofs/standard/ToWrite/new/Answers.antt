use Rattle.std.proofs.Common.{rules}
use Rattle.xw_lines.proofs.standard.ToWrite.new.Goals as goal

pub returns-clause-failures : goal.returns-clause-failures
returns-clause-failures g c = search rules

pub returns-clause-transcript : goal.returns-clause-transcript
returns-clause-transcript g c = search rules
