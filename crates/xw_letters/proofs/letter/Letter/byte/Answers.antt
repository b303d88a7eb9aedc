use Rattle.std.proofs.Common.{rules}
use Rattle.xw_letters.proofs.letter.Letter.byte.Goals as goal

pub returns-clause-code : goal.returns-clause-code
returns-clause-code c = search rules

pub returns-clause-letter : goal.returns-clause-letter
returns-clause-letter c = search rules
