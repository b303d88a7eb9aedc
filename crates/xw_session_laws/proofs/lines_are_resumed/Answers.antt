use Rattle.xw_session_laws.proofs.Resumed.{lines_resumed}
use Rattle.xw_session_laws.proofs.lines_are_resumed.Goals as goal

pub returns : goal.returns
returns c = lines_resumed
