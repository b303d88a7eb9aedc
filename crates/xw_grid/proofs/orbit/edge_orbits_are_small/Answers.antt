use Rattle.xw_grid.proofs.EdgeLemmas.{edge_orbits_are_small}
use Rattle.xw_grid.proofs.orbit.edge_orbits_are_small.Goals as goal

pub returns : goal.returns
returns c = edge_orbits_are_small
