use Rattle.xw_session_laws.proofs.JournalRuns.{broken_journaled, stopped_journaled}
use Rattle.xw_session_laws.proofs.stopped_runs_are_journaled.Goals as goal

pub returns-clause-broken : goal.returns-clause-broken
returns-clause-broken c = broken_journaled

pub returns-clause-stopped : goal.returns-clause-stopped
returns-clause-stopped c = stopped_journaled
