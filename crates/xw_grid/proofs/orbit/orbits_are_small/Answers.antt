use Rattle.xw_grid.proofs.OrbitCellLemmas.{orbits_are_small}
use Rattle.xw_grid.proofs.orbit.orbits_are_small.Goals as goal

pub returns : goal.returns
returns c = orbits_are_small
