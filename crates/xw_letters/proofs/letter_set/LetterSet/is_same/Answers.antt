use Rattle.std.proofs.Common.{arith, rules}
use Rattle.xw_letters.proofs.LetterSetLemmas.{set_steps}
use Rattle.xw_letters.proofs.letter_set.LetterSet.is_same.Goals as goal

pub returns-clause-set : goal.returns-clause-set
returns-clause-set c = search rules

pub returns-clause-letters : goal.returns-clause-letters
returns-clause-letters c = grind (arith, set_steps)
