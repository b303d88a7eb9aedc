use Rattle.std.proofs.Common.{rules}
use Rattle.xw_feas.proofs.board.Board.letter.Goals as goal

pub returns-in-Some : goal.returns-in-Some
returns-in-Some c = search rules
