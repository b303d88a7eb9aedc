use Rattle.std.proofs.Common.{◌≡◌, ◌<◌, ℕ, length, false, get_or}
use Rattle.xw_search.specs.Position.{position_of}
use Rattle.xw_search.specs.NamedFill.{flags}
use Rattle.xw_search.specs.Progress.{is_watched}
use Rattle.xw_search.proofs.plan.watched_of.Given as goal

abbrev pub invariant-loop-light : goal.invariant-loop-light
invariant-loop-light g l = record {
  long : length l.watched.items ≡ l.light;
  are : (k : ℕ) → k < l.light → get_or l.watched.items k false ≡ is_watched (flags l.named) (position_of (g.E.Feasible.state l.engine)) k;
}
