use Rattle.xw_search.specs.Position.{position_of}
use Rattle.std.proofs.Common.{◌≡◌, None}
use Rattle.xw_search.specs.Below.{first_below}
use Rattle.xw_search.specs.Lights.{spell_same}
use Rattle.xw_search.proofs.lights.first_same.Given as goal

abbrev pub invariant-loop-other : goal.invariant-loop-other
invariant-loop-other g l = first_below (spell_same (position_of (g.E.Feasible.state l.engine)) l.light) l.other ≡ None
