use Rattle.std.proofs.Common.{◌≡◌, false, not, ◌&&◌}
use Rattle.std.specs.Prelude.{◌==◌}
use Rattle.xw_search.specs.Position.{position_of}
use Rattle.xw_search.specs.Below.{any_below}
use Rattle.xw_search.specs.Lights.{spell_same}
use Rattle.xw_fill.proofs.entered_since.has_same.Given as goal

abbrev pub invariant-loop-other : goal.invariant-loop-other
invariant-loop-other g l = any_below (λ other. not (other == l.light) && spell_same (position_of (g.E.Feasible.state l.engine)) l.light other) l.other ≡ false
