use Rattle.xw_grid.proofs.CountLemmas.{lights_are_few}
use Rattle.xw_grid.proofs.lights.lights_are_few.Goals as goal

pub returns : goal.returns
returns c = lights_are_few
