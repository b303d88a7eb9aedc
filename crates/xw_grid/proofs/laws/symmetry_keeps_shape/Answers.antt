use Rattle.xw_grid.proofs.ChangeLemmas.{symmetry_keeps_shape}
use Rattle.xw_grid.proofs.laws.symmetry_keeps_shape.Goals as goal

pub returns : goal.returns
returns c = symmetry_keeps_shape
