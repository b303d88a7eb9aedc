use Rattle.std.proofs.Common.{◌≡◌, length}
use Rattle.xw_search.proofs.plan.crossings_of.Given as goal

abbrev pub invariant-loop-cell : goal.invariant-loop-cell
invariant-loop-cell g l = length l.crossings.items ≡ l.cell-index
