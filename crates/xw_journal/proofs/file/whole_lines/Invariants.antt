use Rattle.std.proofs.Common.{◌≤◌, drop, length}
use Rattle.xw_lines.specs.Cut.{HasNoLf}
use Rattle.xw_journal.proofs.file.whole_lines.Given as goal

-- the bytes left out have no LF
abbrev pub invariant-loop-end : goal.invariant-loop-end
invariant-loop-end l = (l.end ≤ length l.bytes) × HasNoLf (drop l.end l.bytes)

abbrev pub decreases-loop-end : goal.decreases-loop-end
decreases-loop-end l = l.end
