use Rattle.std.proofs.Common.{arith, rules}
use Rattle.xw_letters.proofs.LetterSetLemmas.{walking_steps}
use Rattle.xw_letters.proofs.letters.LettersIterator.next.Goals as goal

pub returns-then-holds-clause-steps : goal.returns-then-holds-clause-steps
returns-then-holds-clause-steps c = grind (arith, walking_steps)

pub returns-then-holds-clause-goes : goal.returns-then-holds-clause-goes
returns-then-holds-clause-goes c = grind (arith, walking_steps)

pub loop-self-smaller : goal.loop-self-smaller
loop-self-smaller c = search rules
