use Rattle.xw_session_laws.proofs.RecordAgain.{commands_again}
use Rattle.xw_session_laws.proofs.commands_make_sessions_again.Goals as goal

pub returns : goal.returns
returns c = commands_again
