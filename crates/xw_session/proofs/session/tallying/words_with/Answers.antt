use Rattle.std.proofs.Common.{◌≡◌, ◌<◌, ℕ, List, Some, length, get_or, sym, ◌∙◌, ap, subst}
use Rattle.std.specs.Prelude.{slice_get}
use Rattle.std.proofs.lemmas.Option.{slice_get-get_or}
use Rattle.xw_grid.specs.declared.cell.Cell.{Cell}
use Rattle.xw_grid.specs.declared.lights.Light.{Light}
use Rattle.xw_grid.specs.Grid.{Grid}
use Rattle.xw_grid.specs.Light.{lights_of, no_light}
use Rattle.xw_feas.specs.Board.{board_of, light_at}
use Rattle.xw_feas.specs.Queries.{tally_of}
use Rattle.xw_session.specs.Tally.{distance}
use Rattle.xw_session.proofs.Tallying.{light_there, cell_there, start_found, words_counted}
use Rattle.xw_session.proofs.session.tallying.words_with.Goals as goal

there_of : (grid : Grid) (lights : List Light) (light : ℕ) (found : Light) → lights ≡ lights_of grid → light < length (lights_of grid) → found ≡ get_or lights light no_light → slice_get (lights_of grid) light ≡ Some found
there_of grid lights light found is below at = slice_get-get_or (lights_of grid) light no_light below ∙ ap Some (sym (at ∙ ap (λ ls. get_or ls light no_light) is))

pub tally-requires-clause-position : goal.tally-requires-clause-position
tally-requires-clause-position g c =
    let grid = (g.E.Feasible.state c.args.engine.now).grid in
    let there = there_of grid c.lights.result.now c.args.light c.at-found.result c.lights.ensures (light_there grid c.args.direction c.args.cell c.args.light c.requires) c.at-found.ensures in
    let far = c.distance-position.ensures ∙ ap (λ (start : Cell). distance c.args.direction start c.args.cell) (start_found grid c.args.light c.at-found.result there) in
    subst (λ k. k < length (light_at (board_of grid) c.args.light)) (sym far) (cell_there grid c.args.direction c.args.cell c.args.light c.requires)

pub at-found-requires : goal.at-found-requires
at-found-requires g c =
    let grid = (g.E.Feasible.state c.args.engine.now).grid in
    subst (λ (lights : List Light). c.args.light < length lights) (sym c.lights.ensures) (light_there grid c.args.direction c.args.cell c.args.light c.requires)

pub returns : goal.returns
returns g c =
    let engine = g.E.Feasible.state c.args.engine.now in
    let answers = g.E.Feasible.answers c.args.engine.now in
    let there = there_of engine.grid c.lights.result.now c.args.light c.at-found.result c.lights.ensures (light_there engine.grid c.args.direction c.args.cell c.args.light c.requires) c.at-found.ensures in
    let far = c.distance-position.ensures ∙ ap (λ (start : Cell). distance c.args.direction start c.args.cell) (start_found engine.grid c.args.light c.at-found.result there) in
    c.tally.ensures ∙ ap (λ k. tally_of answers c.args.light k c.args.letter) far ∙ words_counted engine answers c.args.direction c.args.cell c.args.letter c.args.light (g.met.E.Feasible.exact c.args.engine.now)
