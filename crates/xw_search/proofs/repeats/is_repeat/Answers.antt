use Rattle.std.proofs.Common.{sym, ◌∙◌, arith, refl, None, get_or}
use Rattle.xw_search.specs.Position.{position_of}
use Rattle.xw_search.proofs.LinkLemmas.{walk-init, walk-step, walk-found, walk-end, walk-shorter}
use Rattle.xw_search.proofs.repeats.is_repeat.Goals as goal

pub loop-next-init : goal.loop-next-init
loop-next-init g c = walk-init (position_of (g.E.Feasible.state c.args.engine.now)) c.args.light c.args.last c.requires.last

pub spell_same-requires-clause-other : goal.spell_same-requires-clause-other
spell_same-requires-clause-other g c = omega (arith, (c.loop-next.invariant.at c.in-Some.other c.in-Some.is).0, c.requires.light)

pub returns-then-spell_same : goal.returns-then-spell_same
returns-then-spell_same g c = sym (walk-found (position_of (g.E.Feasible.state c.args.engine.now)) c.args.light c.in-Some.other c.loop-next.next c.loop-next.invariant c.in-Some.is (sym c.spell_same.ensures ∙ c.if-spell_same.true))

pub loop-next-smaller : goal.loop-next-smaller
loop-next-smaller g c = walk-shorter (position_of (g.E.Feasible.state c.args.engine.now)) c.args.light c.in-Some.other c.loop-next.next c.args.earlier.now c.loop-next.invariant c.in-Some.is c.requires.linked

pub loop-next-preserved : goal.loop-next-preserved
loop-next-preserved g c = walk-step (position_of (g.E.Feasible.state c.args.engine.now)) c.args.light c.in-Some.other c.loop-next.next (get_or c.args.earlier.now c.in-Some.other None) c.args.earlier.now c.loop-next.invariant c.in-Some.is (sym c.spell_same.ensures ∙ c.if-spell_same.false) c.requires.linked refl

pub returns : goal.returns
returns g c = sym (walk-end (position_of (g.E.Feasible.state c.args.engine.now)) c.args.light c.loop-next.next c.loop-next.invariant c.in_default.is)
