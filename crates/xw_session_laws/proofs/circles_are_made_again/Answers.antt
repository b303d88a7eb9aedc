use Rattle.xw_session_laws.proofs.CirclesAgain.{circles_again}
use Rattle.xw_session_laws.proofs.circles_are_made_again.Goals as goal

pub returns : goal.returns
returns c = λ state made is. circles_again state made.engine.grid is made.circles made.clues
