use Rattle.std.proofs.Common.{arith}
use Rattle.xw_grid.specs.Light.{no_light}
use Rattle.xw_feas.proofs.BoardLemmas.{light_fits}
use Rattle.xw_feas.proofs.place.enter_word.Goals as goal

pub spell-requires-clause-room : goal.spell-requires-clause-room
spell-requires-clause-room c =
    let fits = light_fits c.args.grid.now c.args.index no_light c.well_formed-2.ensures c.requires.index in
    omega (arith, fits.size, c.requires.size)
