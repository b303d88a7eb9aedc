use Rattle.std.proofs.Common.{rules}
use Rattle.xw_letters.proofs.letter_set.LetterSet.iter.Goals as goal

pub returns : goal.returns
returns c = search rules
