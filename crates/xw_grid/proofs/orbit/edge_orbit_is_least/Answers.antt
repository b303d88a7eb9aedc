use Rattle.xw_grid.proofs.EdgeOrbitLemmas.{edge_orbit_is_least}
use Rattle.xw_grid.proofs.orbit.edge_orbit_is_least.Goals as goal

pub returns : goal.returns
returns c = edge_orbit_is_least
