use Rattle.std.proofs.Common.{◌≡◌, ◌<◌, ℕ, length, false, get_or, not}
use Rattle.xw_search.specs.Position.{position_of}
use Rattle.xw_search.specs.Lights.{is_entered}
use Rattle.xw_best.proofs.best.grades.fresh_lights.Given as goal

abbrev pub invariant-loop-light : goal.invariant-loop-light
invariant-loop-light g l = record {
  long : length l.fresh.items ≡ l.light;
  are : (k : ℕ) → k < l.light → get_or l.fresh.items k false ≡ not (is_entered (position_of (g.E.Feasible.state l.engine)) k);
}
