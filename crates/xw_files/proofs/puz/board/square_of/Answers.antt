use Rattle.std.proofs.Common.{rules}
use Rattle.xw_files.proofs.puz.board.square_of.Goals as goal

pub returns-in_err-of-in_default : goal.returns-in_err-of-in_default
returns-in_err-of-in_default c = search rules

pub returns-in_ok-of-in_default : goal.returns-in_ok-of-in_default
returns-in_ok-of-in_default c = search rules
