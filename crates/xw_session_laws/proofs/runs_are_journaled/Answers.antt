use Rattle.xw_session_laws.proofs.JournalRuns.{run_journaled}
use Rattle.xw_session_laws.proofs.runs_are_journaled.Goals as goal

pub returns : goal.returns
returns c = λ start end lines out refused. run_journaled lines start end out refused
