use Rattle.std.proofs.Common.{◌-◌}
use Rattle.xw_net.proofs.tally.weigh_letters.Given as goal

abbrev pub decreases-loop-index : goal.decreases-loop-index
decreases-loop-index l = 26 - l.from
