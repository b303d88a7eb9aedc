use Rattle.std.proofs.Common.{◌<◌, arith}
use Rattle.xw_letters.proofs.LetterBits.{first_within, first_there, first_is_first, first_taken}
use Rattle.xw_letters.proofs.letter_set.LetterSet.take_first.Goals as goal

pub returns-clause-set : goal.returns-clause-set
returns-clause-set c =
    let some : 0 < c.self.inside.bits = omega (arith, c.if-self-eq0.false) in
    (first_within c.self.inside.bits some c.self.invariant, rw (← c.self.view_is) (first_there c.self.inside.bits some c.self.invariant))

pub returns-clause-first : goal.returns-clause-first
returns-clause-first c =
    let some : 0 < c.self.inside.bits = omega (arith, c.if-self-eq0.false) in
    rw (← c.self.view_is) (first_is_first c.self.inside.bits some c.self.invariant)

pub returns-clause-removed : goal.returns-clause-removed
returns-clause-removed c =
    let some : 0 < c.self.inside.bits = omega (arith, c.if-self-eq0.false) in
    rw (← c.self.view_is) (first_taken c.self.inside.bits some c.self.invariant)
