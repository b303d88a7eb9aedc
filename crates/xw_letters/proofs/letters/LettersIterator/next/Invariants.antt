use Rattle.std.proofs.Common.{◌≡◌, ◌-◌}
use Rattle.xw_letters.specs.LetterSet.{letters_from}
use Rattle.xw_letters.proofs.letters.LettersIterator.next.Given as goal

-- the letters that the iterator has yet to yield are those at the start of the call
abbrev pub invariant-loop-self : goal.invariant-loop-self
invariant-loop-self l = letters_from l.self-inside.set l.self-inside.index ≡ l.fn.self

abbrev pub decreases-loop-self : goal.decreases-loop-self
decreases-loop-self l = 26 - l.self-inside.index
