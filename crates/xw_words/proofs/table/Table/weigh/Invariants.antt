use Rattle.std.proofs.Common.{◌+◌, ◌-◌, length}
use Rattle.xw_words.proofs.table.Table.weigh.Given as goal

abbrev pub decreases-loop-index : goal.decreases-loop-index
decreases-loop-index l = length l.row.bits + 64 - l.from
