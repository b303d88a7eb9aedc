use Rattle.std.proofs.Common.{◌≡◌, ◌≤◌, drop, length}
use Rattle.xw_session.specs.Reports.{longest}
use Rattle.xw_session.proofs.session.telling.longest.Given as goal

abbrev pub invariant-loop-index : goal.invariant-loop-index
invariant-loop-index l = (l.index ≤ length l.lights) × (l.found ≡ longest (drop l.index l.lights))

abbrev pub decreases-loop-index : goal.decreases-loop-index
decreases-loop-index l = l.index
