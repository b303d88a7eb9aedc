use Rattle.std.proofs.Common.{rules}
use Rattle.xw_letters.proofs.letter_set.LetterSet.only.Goals as goal

pub returns-clause-letters : goal.returns-clause-letters
returns-clause-letters c = search rules
