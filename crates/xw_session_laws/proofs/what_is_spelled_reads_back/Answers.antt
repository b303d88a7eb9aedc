use Rattle.xw_answers.proofs.Escapes.{reads_back}
use Rattle.xw_session_laws.proofs.SpelledLines.{no_lf_spelled, spelled_trimmed}
use Rattle.xw_session_laws.proofs.what_is_spelled_reads_back.Goals as goal

pub returns-clause-back : goal.returns-clause-back
returns-clause-back c = reads_back

pub returns-clause-line : goal.returns-clause-line
returns-clause-line c = no_lf_spelled

pub returns-clause-ends : goal.returns-clause-ends
returns-clause-ends c = spelled_trimmed
