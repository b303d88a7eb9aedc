use Rattle.std.proofs.Common.{arith}
use Rattle.xw_letters.proofs.LetterBits.{none_from, first_index, none_before}
use Rattle.xw_letters.proofs.letter_set.LetterSet.next_index.Goals as goal

pub returns-then-rest-eq0-clause-none : goal.returns-then-rest-eq0-clause-none
returns-then-rest-eq0-clause-none c = rw (← c.self.view_is) (none_from c.self.inside.bits c.args.from c.if-rest-eq0.true)

pub returns-clause-set : goal.returns-clause-set
returns-clause-set c =
    let found = first_index c.self.inside.bits c.args.from c.self.invariant (omega (arith, c.if-rest-eq0.false)) in
    (omega arith, found.0, rw (← c.self.view_is) found.1)

pub returns-clause-first : goal.returns-clause-first
returns-clause-first c = rw (← c.self.view_is) (none_before c.self.inside.bits c.args.from c.self.invariant (omega (arith, c.if-rest-eq0.false)))
