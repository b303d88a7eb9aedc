use Rattle.xw_session_laws.proofs.CellsAgain.{blocks_again}
use Rattle.xw_session_laws.proofs.blocks_are_made_again.Goals as goal

pub returns : goal.returns
returns c = λ state made is. blocks_again state made.engine.grid is made.clues made.circles
