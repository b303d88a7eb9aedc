use Rattle.std.proofs.Common.{◌≤◌, ◌-◌}
use Rattle.xw_net.specs.Inner.Lost.{AreInRow}
use Rattle.xw_net.proofs.support.next_lost.Given as goal

abbrev pub invariant-loop-index : goal.invariant-loop-index
invariant-loop-index l = record {
  past : l.fn.from ≤ l.at;
  passed : AreInRow l.row.bits l.held l.slot l.letters l.fn.from l.at;
}

abbrev pub decreases-loop-index : goal.decreases-loop-index
decreases-loop-index l = 26 - l.at
