use Rattle.std.proofs.Common.{◌≡◌, length, map}
use Rattle.xw_files.specs.Text.Location.{after}
use Rattle.xw_files.proofs.text.location.after.Given as goal

abbrev pub invariant-loop-rest : goal.invariant-loop-rest
invariant-loop-rest l = after l.name (map (λ line. line.now) l.rest) ≡ after l.name (map (λ line. line.now) l.lines)

abbrev pub decreases-loop-rest : goal.decreases-loop-rest
decreases-loop-rest l = length l.rest
