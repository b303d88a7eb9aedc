use Rattle.std.proofs.Common.{◌-◌, length}
use Rattle.xw_net.proofs.tally.weigh_words.Given as goal

abbrev pub decreases-loop-index : goal.decreases-loop-index
decreases-loop-index l = length l.row.bits - l.from
