use Rattle.std.proofs.Common.{◌∙◌, arith, ap, subst, List, Bool}
use Rattle.xw_search.specs.NamedFill.{flags}
use Rattle.xw_best.specs.Best.{at_least}
use Rattle.xw_best.specs.Inner.Climbing.{IsDeadAt}
use Rattle.xw_best.proofs.LeastLemmas.{at_least-same, least_within}
use Rattle.xw_best.proofs.GradeLemmas.{dead_none}
use Rattle.xw_best.proofs.best.probe.bound_of.Goals as goal

pub first_deadly-bound-requires-clause-ordered : goal.first_deadly-bound-requires-clause-ordered
first_deadly-bound-requires-clause-ordered g c =
    let within = least_within (g.E.Feasible.state c.args.engine.now) (g.met.E.Feasible.well_formed c.args.engine.now) in
    omega (arith, within, c.requires.least)

pub returns-clause-bound : goal.returns-clause-bound
returns-clause-bound g c =
    let state = g.E.Feasible.state c.args.engine.now in
    let letters = (g.met.E.Feasible.well_formed c.args.engine.now).board.letters in
    record {
      within = c.first_deadly-bound.ensures.below;
      none = λ within. dead_none c.args.plan.now.named.items c.args.plan.now.watched.items state c.first_deadly-bound.result letters c.requires.plan.watched.are
          (subst (λ (list : List Bool). IsDeadAt (flags list) state c.first_deadly-bound.result) c.deref.ensures.value (c.first_deadly-bound.ensures.dead (omega (arith, within))));
    }

pub returns-clause-unchanged : goal.returns-clause-unchanged
returns-clause-unchanged g c =
    let state = g.E.Feasible.state c.args.engine.now in
    c.choose_least.ensures.state ∙ c.first_deadly-bound.ensures.state c.args.least ∙ ap (λ n. at_least state n) c.requires.least ∙ at_least-same state (g.met.E.Feasible.well_formed c.args.engine.now)
