use Rattle.std.specs.Prelude.{All}
use Rattle.xw_search.specs.NamedFill.{flags}
use Rattle.xw_best.specs.Inner.Candidate.{IsForTarget}
use Rattle.xw_best.proofs.best.candidate.written_of.Given as goal

abbrev pub invariant-loop-index : goal.invariant-loop-index
invariant-loop-index g l = All (IsForTarget (flags l.plan.named.items) (g.E.Feasible.state l.engine)) l.list.items
