use Rattle.std.proofs.Common.{◌^◌}
use Rattle.xw_letters.proofs.LetterSetLemmas.{has-removed, removed-less, removed-small, letter_is_capital}
use Rattle.xw_letters.proofs.letter_set.LetterSet.remove.Goals as goal

pub invariant_of-self : goal.invariant_of-self
invariant_of-self c = removed-small c.self.inside.bits c.byte.result (2 ^ 26) c.self.invariant

pub returns-clause-removed : goal.returns-clause-removed
returns-clause-removed c = λ other. rw (← c.self.view_is, ← c.byte.ensures.code) (has-removed c.self.inside.bits c.byte.result other c.byte.ensures.letter)

pub returns-clause-fewer : goal.returns-clause-fewer
returns-clause-fewer c = rw (← c.self.view_is, ← c.byte.ensures.code) (removed-less c.self.inside.bits c.byte.result c.byte.ensures.letter)

pub returns-clause-capital : goal.returns-clause-capital
returns-clause-capital c = rw (← c.byte.ensures.code) (letter_is_capital c.byte.result c.byte.ensures.letter)
