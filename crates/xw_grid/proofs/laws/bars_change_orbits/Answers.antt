use Rattle.xw_grid.proofs.ChangeLemmas.{bars_change_orbits}
use Rattle.xw_grid.proofs.laws.bars_change_orbits.Goals as goal

pub returns : goal.returns
returns c = bars_change_orbits
