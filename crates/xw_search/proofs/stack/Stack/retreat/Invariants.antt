use Rattle.std.proofs.Common.{◌≡◌, length}
use Rattle.xw_search.specs.Position.{DiffersInEntries}
use Rattle.xw_search.specs.Stack.{first_or, LeadThrough}
use Rattle.xw_search.proofs.StackLemmas.{IsOnTheWay}
use Rattle.xw_search.proofs.stack.Stack.retreat.Given as goal

abbrev pub invariant-loop-last : goal.invariant-loop-last
invariant-loop-last g l =
    let start = g.E.Feasible.state l.fn.engine in
    let now = g.E.Feasible.state l.engine in
    record {
      on : IsOnTheWay g.M.Placement.is_placed g.M.Placement.forced l.fn.self.placements.items start l.self.placements.items now;
      stands : LeadThrough g.M.Placement.is_placed l.self.placements.items (g.E.Searchable.levels l.engine) now;
      began : first_or (g.E.Searchable.levels l.engine) now ≡ first_or (g.E.Searchable.levels l.fn.engine) start;
      entries : DiffersInEntries start now;
      count : g.E.Feasible.placed l.engine ≡ g.E.Feasible.placed l.fn.engine;
    }

abbrev pub decreases-loop-last : goal.decreases-loop-last
decreases-loop-last g l = length l.self.placements.items
