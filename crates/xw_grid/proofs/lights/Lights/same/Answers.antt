use Rattle.std.proofs.Common.{◌≡◌, ◌≤◌, sym, subst, ◌∙◌}
use Rattle.std.specs.Prelude.{Some, slice_get}
use Rattle.std.proofs.lemmas.Option.{get_or_from_slice_get, slice_get_within}
use Rattle.xw_grid.specs.Light.{no_light}
use Rattle.xw_grid.specs.declared.lights.Light.{Light}
use Rattle.xw_grid.proofs.LookupLemmas.{lights_are_good}
use Rattle.xw_grid.proofs.lights.Lights.same.Goals as goal

pub same_as-requires : goal.same_as-requires
same_as-requires c =
    let lights = c.args.self.now in
    let good = lights_are_good c.self.invariant.grid lights (sym c.self.view_is ∙ c.self.invariant.whole) in
    let there : slice_get lights c.args.index ≡ Some c.in_ok-light.light = sym c.get.ensures ∙ c.in_ok-light.was in
    subst (λ (light : Light). 2 ≤ light.size) (get_or_from_slice_get lights c.args.index c.in_ok-light.light no_light there) (good.several c.args.index no_light (slice_get_within lights c.args.index c.in_ok-light.light there))
