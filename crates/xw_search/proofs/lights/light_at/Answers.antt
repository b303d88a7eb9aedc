use Rattle.std.proofs.Common.{◌<◌, List, length, get_or, sym, ap, subst, ◌∙◌}
use Rattle.xw_grid.specs.declared.lights.Light.{Light}
use Rattle.xw_grid.specs.Light.{no_light}
use Rattle.xw_search.proofs.StateLemmas.{in_grid_light}
use Rattle.xw_search.proofs.lights.light_at.Goals as goal

pub at-requires : goal.at-requires
at-requires g c = subst (λ (lights : List Light). c.args.light < length lights) (sym c.lights.ensures) (in_grid_light (g.E.Feasible.state c.args.engine.now).grid c.args.light c.requires)

pub returns : goal.returns
returns g c = c.at.ensures ∙ ap (λ lights. get_or lights c.args.light no_light) c.lights.ensures
