use Rattle.std.proofs.Common.{◌≡◌}
use Rattle.xw_search.specs.Allowance.{HasPlacedWithin}
use Rattle.xw_best.specs.Inner.Climbing.{IsClimbing, HasClimbed, spent_by, work_left}
use Rattle.xw_best.proofs.best.climb.Climb.run.Given as goal

abbrev pub invariant-loop-self : goal.invariant-loop-self
invariant-loop-self g l = record {
  climbing : IsClimbing g.E.Searchable.saved l.self (g.E.Feasible.state l.engine);
  same : g.E.Feasible.state l.engine ≡ g.E.Feasible.state l.fn.engine;
  climbed : HasClimbed g.E.Searchable.saved l.fn.self l.self l.fn.allowance l.allowance;
  within : HasPlacedWithin l.fn.allowance l.allowance (spent_by (g.E.Feasible.placed l.fn.engine) l.fn.self) (spent_by (g.E.Feasible.placed l.engine) l.self);
}

abbrev pub decreases-loop-self : goal.decreases-loop-self
decreases-loop-self g l = work_left l.self l.allowance
