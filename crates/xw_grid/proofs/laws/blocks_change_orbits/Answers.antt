use Rattle.xw_grid.proofs.ChangeLemmas.{blocks_change_orbits}
use Rattle.xw_grid.proofs.laws.blocks_change_orbits.Goals as goal

pub returns : goal.returns
returns c = blocks_change_orbits
