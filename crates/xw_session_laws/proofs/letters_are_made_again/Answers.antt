use Rattle.xw_session_laws.proofs.CellsAgain.{letters_again}
use Rattle.xw_session_laws.proofs.letters_are_made_again.Goals as goal

pub returns : goal.returns
returns c = λ state made is. letters_again state made.engine.grid is made.clues made.circles
