use Rattle.std.proofs.Common.{length}
use Rattle.xw_net.proofs.level.forget.Given as goal

abbrev pub decreases-loop-last : goal.decreases-loop-last
decreases-loop-last l = length l.kept.items
