use Rattle.xw_session_laws.proofs.CluesAgain.{both_again}
use Rattle.xw_session_laws.proofs.clues_are_made_again.Goals as goal

pub returns : goal.returns
returns c = λ state made is are. both_again state made.engine.grid is made.clues are made.circles
