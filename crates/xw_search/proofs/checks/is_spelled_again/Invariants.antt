use Rattle.std.proofs.Common.{◌≡◌, false}
use Rattle.xw_search.specs.Position.{position_of}
use Rattle.xw_search.specs.Below.{any_below}
use Rattle.xw_search.proofs.CheckLemmas.{is_twin}
use Rattle.xw_search.proofs.checks.is_spelled_again.Given as goal

abbrev pub invariant-loop-other : goal.invariant-loop-other
invariant-loop-other g l = any_below (is_twin (position_of (g.E.Feasible.state l.engine)) l.light) l.other ≡ false
