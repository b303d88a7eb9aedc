use Rattle.std.proofs.Common.{◌-◌, arith}
use Rattle.std.proofs.lemmas.Nat.{or_lt}
use Rattle.xw_letters.proofs.LetterSetLemmas.{small_bit, has-inserted, letter_is_capital}
use Rattle.xw_letters.proofs.letter_set.LetterSet.insert.Goals as goal

pub invariant_of-self : goal.invariant_of-self
invariant_of-self c = or_lt 26 c.self.inside.bits _ c.self.invariant (small_bit (c.byte.result - 65) (omega (arith, c.byte.ensures.letter)))

pub returns-clause-inserted : goal.returns-clause-inserted
returns-clause-inserted c = λ other. rw (← c.self.view_is, ← c.byte.ensures.code) (has-inserted c.self.inside.bits c.byte.result other c.byte.ensures.letter)

pub returns-clause-capital : goal.returns-clause-capital
returns-clause-capital c = rw (← c.byte.ensures.code) (letter_is_capital c.byte.result c.byte.ensures.letter)
