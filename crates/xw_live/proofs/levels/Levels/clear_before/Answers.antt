use Rattle.xw_live.proofs.Placements.{none_sized}
use Rattle.xw_live.proofs.levels.Levels.clear_before.Goals as goal

-- none are left
pub returns-in-Shape-clause-spare : goal.returns-in-Shape-clause-spare
returns-in-Shape-clause-spare c grid made spare = none_sized grid c.new.result.spare.items c.new.ensures.spare
