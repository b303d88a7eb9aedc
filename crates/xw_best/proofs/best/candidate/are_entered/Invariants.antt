use Rattle.std.proofs.Common.{◌≡◌, ◌<◌, ℕ, true, is_some, get_or}
use Rattle.xw_search.specs.NamedFill.{entry_in}
use Rattle.xw_search.specs.Progress.{entries_of}
use Rattle.xw_best.proofs.best.candidate.are_entered.Given as goal

abbrev pub invariant-loop-index : goal.invariant-loop-index
invariant-loop-index g l = (k : ℕ) → k < l.index → is_some (entry_in (entries_of (g.E.Feasible.state l.engine)) (get_or l.cells k 0)) ≡ true
