use Rattle.xw_session_laws.proofs.JournalLeft.{run_leaves}
use Rattle.xw_session_laws.proofs.runs_leave_journals.Goals as goal

pub returns : goal.returns
returns g c = run_leaves g.R.Source.transcript g.R.Source.is_at_end g.R.Source.failures g.W.Sink.transcript g.W.Sink.failures
