use Rattle.std.proofs.Common.{◌≡◌, length}
use Rattle.xw_search.specs.Stack.{first_or, LeadThrough}
use Rattle.xw_search.proofs.stack.Stack.reset.Given as goal

abbrev pub invariant-loop-last : goal.invariant-loop-last
invariant-loop-last g l = record {
  stands : LeadThrough g.M.Placement.is_placed l.self.placements.items (g.E.Searchable.levels l.engine) (g.E.Feasible.state l.engine);
  began : first_or (g.E.Searchable.levels l.engine) (g.E.Feasible.state l.engine) ≡ first_or (g.E.Searchable.levels l.fn.engine) (g.E.Feasible.state l.fn.engine);
  count : g.E.Feasible.placed l.engine ≡ g.E.Feasible.placed l.fn.engine;
}

abbrev pub decreases-loop-last : goal.decreases-loop-last
decreases-loop-last g l = length l.self.placements.items
