use Rattle.std.proofs.Common.{refl, subst, ◌≤◌}
use Rattle.xw_search.specs.NamedFill.{flags}
use Rattle.xw_best.proofs.ClimbLemmas.{none_left}
use Rattle.xw_best.proofs.best.climb.Climb.finish.Goals as goal

pub returns-in-None-clause-best : goal.returns-in-None-clause-best
returns-in-None-clause-best g c =
    let state = g.E.Feasible.state c.args.engine.now in
    let climb = c.args.self.now in (
      none_left (flags climb.prober.plan.named.items) state climb.bound (g.met.E.Feasible.well_formed c.args.engine.now) c.requires.climbing.bound (subst (λ n. climb.bound ≤ n) c.requires.climbing.prober.least c.if-self.true),
      refl,
    )
