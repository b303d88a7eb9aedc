use Rattle.std.proofs.Common.{take}
use Rattle.xw_search.specs.NamedFill.{AreFlagged}
use Rattle.xw_search.proofs.flags.flag_lights.Given as goal

abbrev pub invariant-loop-index : goal.invariant-loop-index
invariant-loop-index g l = record { flagged : AreFlagged (g.E.Feasible.state l.engine) (take l.index l.names) l.initial.named l.named }
