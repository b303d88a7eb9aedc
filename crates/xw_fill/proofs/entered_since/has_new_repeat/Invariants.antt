use Rattle.std.proofs.Common.{◌≡◌, ℕ, ◌<◌, false}
use Rattle.xw_search.specs.Position.{position_of}
use Rattle.xw_fill.specs.Inner.EnteredSince.{noted}
use Rattle.xw_search.specs.Lights.{is_spelled_again}
use Rattle.xw_fill.proofs.entered_since.has_new_repeat.Given as goal

abbrev pub invariant-loop-light : goal.invariant-loop-light
invariant-loop-light g l = (k : ℕ) → k < l.light → noted l.since l.placements k ≡ false → is_spelled_again (position_of (g.E.Feasible.state l.engine)) k ≡ false
