use Rattle.std.proofs.Common.{◌≡◌, ◌∙◌, Some, ap, sym, arith}
use Rattle.std.proofs.lemmas.List.Quantifiers.{position-Some}
use Rattle.xw_grid.specs.Light.{lights_of, no_light, index_named, same_name}
use Rattle.xw_feas.proofs.BoardLemmas.{length-lights}
use Rattle.xw_session.proofs.session.grading.grade_named.Goals as goal

pub grade-requires : goal.grade-requires
grade-requires g c =
    let grid = (g.E.Feasible.state c.args.engine.now).grid in
    let found : index_named (lights_of grid) c.args.name ≡ Some c.in_ok-light.light = sym (ap (λ lights. index_named lights c.args.name) c.lights.ensures) ∙ sym c.index.ensures ∙ c.in_ok-light.was in
    let at = position-Some (λ light. same_name light.name c.args.name) (lights_of grid) c.in_ok-light.light no_light found in
    omega (arith, at.0, length-lights grid)
