use Rattle.xw_session_laws.proofs.Replaying.{replayed_both}
use Rattle.xw_session_laws.proofs.commands_follow_one_another.Goals as goal

pub returns : goal.returns
returns c = replayed_both
