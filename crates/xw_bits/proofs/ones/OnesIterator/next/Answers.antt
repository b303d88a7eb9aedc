use Rattle.std.proofs.Common.{◌≡◌, ◌+◌, ◌∷◌, false, sym, ◌∙◌, arith, rules}
use Rattle.std.proofs.lemmas.List.{get_or_past}
use Rattle.xw_bits.specs.SetBits.{set_indices}
use Rattle.xw_bits.proofs.SetBitLemmas.{set_indices_none, set_indices_first}
use Rattle.xw_bits.proofs.ones.OnesIterator.next.Goals as goal

pub overflow_add-self : goal.overflow_add-self
overflow_add-self c = omega (arith, c.in-Some.ensures.small)

pub returns-in-Some-clause-steps : goal.returns-in-Some-clause-steps
returns-in-Some-clause-steps c =
    let r = c.self.inside in
    sym c.self.view_is ∙ set_indices_first r.row.now.bits r.next c.in-Some.index c.in-Some.ensures.set.0 c.in-Some.ensures.set.1 c.in-Some.ensures.first

pub returns-in-Some-clause-goes : goal.returns-in-Some-clause-goes
returns-in-Some-clause-goes c =
    let r = c.self.inside in
    let steps : c.args.self.now ≡ c.in-Some.index ∷ set_indices r.row.now.bits (c.in-Some.index + 1) =
    sym c.self.view_is ∙ set_indices_first r.row.now.bits r.next c.in-Some.index c.in-Some.ensures.set.0 c.in-Some.ensures.set.1 c.in-Some.ensures.first in
    rw steps (search rules)

pub returns-in-None-clause-steps : goal.returns-in-None-clause-steps
returns-in-None-clause-steps c =
    let r = c.self.inside in
    let bits = r.row.now.bits in
    (sym c.self.view_is ∙ set_indices_none bits r.next c.in-None.ensures.none, set_indices_none bits c.len-self-inside.result (λ i le. get_or_past bits i false (omega (arith, c.len-self-inside.ensures.value))))
