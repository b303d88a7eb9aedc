use Rattle.std.proofs.Common.{◌≡◌, ℕ, ◌<◌, ◌-◌, length, get_or, false, []}
use Rattle.xw_search.specs.Position.{position_of}
use Rattle.xw_fill.specs.Suggesting.{can_be_tried}
use Rattle.xw_fill.specs.Words.{spellings_at}
use Rattle.xw_fill.proofs.suggesting.find_index.Given as goal

-- no word before this index can be tried
abbrev pub invariant-loop-index : goal.invariant-loop-index
invariant-loop-index g l =
    let start = g.E.Feasible.state l.initial.engine in
    record {
      same : g.E.Feasible.state l.engine ≡ start;
      failed : (k : ℕ) → k < l.from → can_be_tried (position_of start) l.light (get_or (spellings_at (position_of start) l.light) k []) ≡ false;
    }

abbrev pub decreases-loop-index : goal.decreases-loop-index
decreases-loop-index g l = length (spellings_at (position_of (g.E.Feasible.state l.initial.engine)) l.light) - l.from
