use Rattle.xw_fill.proofs.ReasonLemmas.{IsSparing}
use Rattle.xw_fill.proofs.why.sparing.spare_once.Given as goal

abbrev pub invariant-loop-written : goal.invariant-loop-written
invariant-loop-written g l = IsSparing (g.E.Feasible.state l.initial.engine) l.light l.list l.spared l.written-index (g.E.Feasible.state l.engine)
