use Rattle.std.proofs.Common.{sym, ◌∙◌}
use Rattle.xw_feas.specs.Board.{board_of, light_at}
use Rattle.xw_search.proofs.PlacingLemmas.{length-spelled}
use Rattle.xw_search.proofs.StateLemmas.{in_grid_light, light_size}
use Rattle.xw_search.proofs.listing.size_of.Goals as goal

pub returns : goal.returns
returns g c =
    let state = g.E.Feasible.state c.args.engine.now in
    sym (light_size state.grid c.args.light c.light_at.result (in_grid_light state.grid c.args.light c.requires) c.light_at.ensures)
    ∙ sym (length-spelled (board_of state.grid) (light_at (board_of state.grid) c.args.light))
