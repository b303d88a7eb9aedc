use Rattle.xw_grid.proofs.KeptLemmas.{clues_are_kept}
use Rattle.xw_grid.proofs.clues.clues_are_kept.Goals as goal

pub returns : goal.returns
returns c = clues_are_kept
