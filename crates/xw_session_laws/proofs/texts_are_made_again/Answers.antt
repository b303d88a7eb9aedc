use Rattle.xw_session_laws.proofs.Replaying.{text_again}
use Rattle.xw_session_laws.proofs.texts_are_made_again.Goals as goal

pub returns : goal.returns
returns c = text_again
