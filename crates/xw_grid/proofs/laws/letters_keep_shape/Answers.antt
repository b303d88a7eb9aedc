use Rattle.xw_grid.proofs.ChangeLemmas.{letters_keep_shape}
use Rattle.xw_grid.proofs.laws.letters_keep_shape.Goals as goal

pub returns : goal.returns
returns c = letters_keep_shape
