use Rattle.std.proofs.Common.{◌≡◌, ◌<◌, ℕ, Contains, true, is_some, Some, None, get_or}
use Rattle.xw_search.specs.NamedFill.{entry_in}
use Rattle.xw_search.specs.Progress.{entries_of}
use Rattle.xw_search.proofs.choice.next_cell.Given as goal

abbrev pub invariant-loop-index : goal.invariant-loop-index
invariant-loop-index g l =
    let entries = entries_of (g.E.Feasible.state l.engine) in
    record {
      some : (cell : ℕ) → l.best ≡ Some cell → Contains l.targets cell × (entry_in entries cell ≡ None);
      none : l.best ≡ None → (k : ℕ) → k < l.index → is_some (entry_in entries (get_or l.targets k 0)) ≡ true;
    }
