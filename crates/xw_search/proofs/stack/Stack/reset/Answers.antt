use Rattle.std.proofs.Common.{refl, sym, ap, ◌∙◌}
use Rattle.xw_search.proofs.StackLemmas.{lead_none}
use Rattle.xw_search.proofs.stack.Stack.reset.Goals as goal

pub loop-last-init : goal.loop-last-init
loop-last-init g c = record { stands = c.requires.stands; began = refl; count = refl }

pub returns-clause-back : goal.returns-clause-back
returns-clause-back g c =
    let engine = c.loop-last.engine in
    ap g.E.Feasible.state c.in_default.ensures.same
    ∙ sym (lead_none g.M.Placement.is_placed c.loop-last.self.placements.items (g.E.Searchable.levels engine) (g.E.Feasible.state engine) c.loop-last.invariant.stands c.in_default.ensures.none)
    ∙ c.loop-last.invariant.began
