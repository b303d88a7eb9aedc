use Rattle.std.proofs.Common.{◌≡◌, map, take}
use Rattle.xw_fill.specs.Sparing.{emptied}
use Rattle.xw_fill.proofs.why.entries.emptied.Given as goal

abbrev pub invariant-loop-written : goal.invariant-loop-written
invariant-loop-written l = l.empty.items ≡ map emptied (take l.written-index l.list)
