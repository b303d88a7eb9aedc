use Rattle.xw_fill.proofs.EntryLemmas.{IsListBelow}
use Rattle.xw_fill.proofs.why.entries.entered_cells.Given as goal

abbrev pub invariant-loop-index : goal.invariant-loop-index
invariant-loop-index g l = IsListBelow (g.E.Feasible.state l.engine) l.index l.list.items
