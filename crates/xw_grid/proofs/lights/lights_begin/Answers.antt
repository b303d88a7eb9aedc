use Rattle.xw_grid.proofs.LightLemmas.{lights_begin}
use Rattle.xw_grid.proofs.lights.lights_begin.Goals as goal

pub returns : goal.returns
returns c = lights_begin
