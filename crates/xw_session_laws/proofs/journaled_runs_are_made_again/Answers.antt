use Rattle.xw_session_laws.proofs.JournalRuns.{text_lines, run_again, begun_again}
use Rattle.xw_session_laws.proofs.journaled_runs_are_made_again.Goals as goal

pub returns-clause-lines : goal.returns-clause-lines
returns-clause-lines c = text_lines

pub returns-clause-made : goal.returns-clause-made
returns-clause-made c = run_again

pub returns-clause-begun : goal.returns-clause-begun
returns-clause-begun c = begun_again
