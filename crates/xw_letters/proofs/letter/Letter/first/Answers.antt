use Rattle.std.proofs.Common.{rules}
use Rattle.xw_letters.proofs.letter.Letter.first.Goals as goal

pub returns : goal.returns
returns c = search rules
