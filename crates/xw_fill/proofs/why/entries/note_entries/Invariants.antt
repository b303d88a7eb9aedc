use Rattle.std.proofs.Common.{◌≡◌, take}
use Rattle.xw_search.specs.Writing.{entries_of}
use Rattle.xw_fill.proofs.why.entries.note_entries.Given as goal

abbrev pub invariant-loop-index : goal.invariant-loop-index
invariant-loop-index g l = take l.index l.entries ≡ take l.index (entries_of (g.E.Feasible.state l.engine))
