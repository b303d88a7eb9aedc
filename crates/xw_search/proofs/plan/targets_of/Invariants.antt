use Rattle.xw_search.specs.Position.{position_of}
use Rattle.xw_search.specs.NamedFill.{flags}
use Rattle.xw_search.specs.Progress.{is_target}
use Rattle.xw_search.proofs.PlanLemmas.{AreThose}
use Rattle.xw_search.proofs.plan.targets_of.Given as goal

abbrev pub invariant-loop-cell : goal.invariant-loop-cell
invariant-loop-cell g l = AreThose (is_target (flags l.named) (position_of (g.E.Feasible.state l.engine))) l.cell l.targets.items
