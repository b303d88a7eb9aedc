use Rattle.xw_grid.proofs.OrderLemmas.{lights_are_ordered}
use Rattle.xw_grid.proofs.lights.lights_are_ordered.Goals as goal

pub returns : goal.returns
returns c = lights_are_ordered
