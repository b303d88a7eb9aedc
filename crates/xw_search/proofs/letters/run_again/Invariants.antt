use Rattle.std.proofs.Common.{◌≡◌, ◌-◌, ◌≤◌}
use Rattle.xw_search.specs.Allowance.{HasPlaced}
use Rattle.xw_search.proofs.letters.run_again.Given as goal

abbrev pub invariant-loop-effort : goal.invariant-loop-effort
invariant-loop-effort g l = record {
  same : g.E.Feasible.state l.engine ≡ g.E.Feasible.state l.initial.engine;
  made : l.initial.allowance.made ≤ l.allowance.made;
  until : l.allowance.until ≡ l.initial.allowance.until;
  limit : l.allowance.limit ≡ l.initial.allowance.limit;
  count : HasPlaced l.initial.allowance l.allowance (g.E.Feasible.placed l.initial.engine) (g.E.Feasible.placed l.engine);
}

abbrev pub decreases-loop-effort : goal.decreases-loop-effort
decreases-loop-effort g l = l.allowance.until - l.allowance.made
