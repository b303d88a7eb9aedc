use Rattle.std.proofs.Common.{◌≡◌, ℕ, suc, ◌<◌, ◌≤◌, ◌-◌}
use Rattle.xw_search.specs.NamedFill.{flags}
use Rattle.xw_best.specs.Inner.Climbing.{DiffersInLeast, IsDeadAt, AreAliveAt}
use Rattle.xw_best.proofs.best.grades.first_deadly.Given as goal

abbrev pub invariant-loop-low : goal.invariant-loop-low
invariant-loop-low g l = record {
  differs : DiffersInLeast (g.E.Feasible.state l.initial.engine) (g.E.Feasible.state l.engine);
  above : l.from ≤ l.low;
  ordered : l.low ≤ l.high;
  below : l.high ≤ l.to;
  dead : l.high < l.to → IsDeadAt (flags l.watched) (g.E.Feasible.state l.initial.engine) l.high;
  alive : (grade : ℕ) → l.from ≤ grade → suc grade ≡ l.low → AreAliveAt (flags l.watched) (g.E.Feasible.state l.initial.engine) grade;
  count : g.E.Feasible.placed l.engine ≡ g.E.Feasible.placed l.initial.engine;
}

abbrev pub decreases-loop-low : goal.decreases-loop-low
decreases-loop-low g l = l.high - l.low
