use Rattle.std.proofs.Common.{◌<◌, subst, ℕ, Option, IfSome}
use Rattle.xw_search.specs.Position.{position_of}
use Rattle.xw_search.specs.Lights.{light_count}
use Rattle.xw_search.proofs.StateLemmas.{in_grid_light}
use Rattle.xw_search.proofs.choice.promises_in.Goals as goal

pub loop-position-init : goal.loop-position-init
loop-position-init g c = tt

pub promises-requires-clause-light : goal.promises-requires-clause-light
promises-requires-clause-light g c =
    let state = g.E.Feasible.state c.args.engine.now in
    in_grid_light state.grid c.in-Some.light (subst (λ (o : Option ℕ). IfSome o (λ light. light < light_count (position_of state))) c.in-Some.is c.requires)

pub loop-position-preserved : goal.loop-position-preserved
loop-position-preserved g c = tt
