use Rattle.std.proofs.Common.{◌≡◌, ap, sym, ◌∙◌, Some, arith}
use Rattle.xw_grid.specs.Light.{lights_of, index_through}
use Rattle.xw_feas.proofs.BoardLemmas.{length-lights}
use Rattle.xw_session.proofs.Tallying.{light_there}
use Rattle.xw_session.proofs.session.erasing.is_held.Goals as goal

pub is_entered-requires : goal.is_entered-requires
is_entered-requires g c =
    let grid = (g.E.Feasible.state c.args.engine.now).grid in
    let found : index_through (lights_of grid) c.crossing.result c.args.cell ≡ Some c.in-Some.light = ap (λ lights. index_through lights c.crossing.result c.args.cell) (sym c.lights.ensures) ∙ sym c.light_through.ensures ∙ c.in-Some.is in
    omega (arith, light_there grid c.crossing.result c.args.cell c.in-Some.light found, length-lights grid)
