use Rattle.xw_search.specs.Position.{position_of}
use Rattle.std.proofs.Common.{sym, ◌∙◌}
use Rattle.xw_search.specs.Lights.{spell_same}
use Rattle.xw_search.proofs.BelowLemmas.{first_below-here}
use Rattle.xw_search.proofs.RepeatLemmas.{not_first}
use Rattle.xw_search.proofs.lights.first_same.Goals as goal

pub returns-then-spell_same : goal.returns-then-spell_same
returns-then-spell_same g c =
    sym (first_below-here (spell_same (position_of (g.E.Feasible.state c.args.engine.now)) c.args.light) c.args.light c.loop-other.other c.loop-other-test.true c.loop-other.invariant (sym c.spell_same.ensures ∙ c.if-spell_same.true))

pub returns-then-not-is_entered : goal.returns-then-not-is_entered
returns-then-not-is_entered g c = sym (not_first (position_of (g.E.Feasible.state c.args.engine.now)) c.args.light (sym c.is_entered.ensures ∙ c.if-not-is_entered.true))
