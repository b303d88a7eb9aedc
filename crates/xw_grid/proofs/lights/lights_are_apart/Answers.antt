use Rattle.xw_grid.proofs.OrderLemmas.{lights_are_apart}
use Rattle.xw_grid.proofs.lights.lights_are_apart.Goals as goal

pub returns : goal.returns
returns c = lights_are_apart
