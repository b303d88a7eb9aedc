use Rattle.std.proofs.Common.{◌≡◌, length, map}
use Rattle.xw_files.specs.Text.Location.{left_after}
use Rattle.xw_files.proofs.text.location.left_after.Given as goal

abbrev pub invariant-loop-rest : goal.invariant-loop-rest
invariant-loop-rest l = left_after l.due (map (λ line. line.now) l.rest) ≡ left_after l.fn.due (map (λ line. line.now) l.lines)

abbrev pub decreases-loop-rest : goal.decreases-loop-rest
decreases-loop-rest l = length l.rest
