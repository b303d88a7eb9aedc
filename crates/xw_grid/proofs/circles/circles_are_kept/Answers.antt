use Rattle.xw_grid.proofs.KeptLemmas.{circles_are_kept}
use Rattle.xw_grid.proofs.circles.circles_are_kept.Goals as goal

pub returns : goal.returns
returns c = circles_are_kept
