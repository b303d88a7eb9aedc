use Rattle.std.proofs.Common.{◌≡◌, ◌≤◌, ◌+◌, ◌-◌, ◌*◌, length}
use Rattle.xw_search.specs.Allowance.{HasPlaced}
use Rattle.xw_search.specs.NamedFill.{flags}
use Rattle.xw_search.specs.Progress.{IsLetterEntered}
use Rattle.xw_search.specs.Stack.{first_or, LeadThrough}
use Rattle.xw_search.proofs.LetterSearch.{IsUnderway}
use Rattle.xw_search.proofs.run.search.Given as goal

abbrev pub invariant-loop-letter : goal.invariant-loop-letter
invariant-loop-letter g l =
    let start = g.E.Feasible.state l.initial.engine in
    let now = g.E.Feasible.state l.engine in
    record {
      stands : LeadThrough IsLetterEntered l.stack.placements.items (g.E.Searchable.levels l.engine) now;
      began : first_or (g.E.Searchable.levels l.engine) now ≡ start;
      underway : IsUnderway (flags l.plan.named.items) start l.stack.placements.items l.cell l.tried now;
      stand : l.initial.allowance.made + length l.stack.placements.items ≤ l.allowance.made;
      until : l.allowance.until ≡ l.initial.allowance.until;
      limit : l.allowance.limit ≡ l.initial.allowance.limit;
      count : HasPlaced l.initial.allowance l.allowance (g.E.Feasible.placed l.initial.engine) (g.E.Feasible.placed l.engine);
    }

abbrev pub decreases-loop-letter : goal.decreases-loop-letter
decreases-loop-letter g l = 2 * (l.allowance.until - l.allowance.made) + length l.stack.placements.items
