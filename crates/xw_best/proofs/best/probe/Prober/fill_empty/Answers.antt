use Rattle.xw_search.specs.NamedFill.{flags}
use Rattle.xw_best.proofs.GradeLemmas.{filling_saved}
use Rattle.xw_best.proofs.best.probe.Prober.fill_empty.Goals as goal

pub returns-clause-saved : goal.returns-clause-saved
returns-clause-saved g c =
    let done = c.fill_planned.ensures in
    filling_saved (flags c.in_ok-plan.plan.named.items) (g.E.Feasible.state c.args.engine.now) (g.E.Feasible.state c.fill_planned.new.engine) c.fill_planned.result done.entered done.ok done.unchanged
