use Rattle.std.proofs.Common.{◌-◌, length}
use Rattle.xw_journal.proofs.Groups.{IsScanned}
use Rattle.xw_journal.proofs.group.complete.Given as goal

abbrev pub invariant-loop-end : goal.invariant-loop-end
invariant-loop-end l = IsScanned l.bytes l.from l.open

abbrev pub decreases-loop-end : goal.decreases-loop-end
decreases-loop-end l = length l.bytes - l.from
