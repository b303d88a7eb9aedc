use Rattle.std.proofs.Common.{rules}
use Rattle.xw_desk.proofs.location.in_puzzle.Goals as goal

pub returns-in-NotFilled : goal.returns-in-NotFilled
returns-in-NotFilled c = search rules
