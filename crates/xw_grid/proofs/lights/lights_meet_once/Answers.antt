use Rattle.xw_grid.proofs.OrderLemmas.{lights_meet_once}
use Rattle.xw_grid.proofs.lights.lights_meet_once.Goals as goal

pub returns : goal.returns
returns c = lights_meet_once
