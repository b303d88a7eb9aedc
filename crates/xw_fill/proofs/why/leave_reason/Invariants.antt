use Rattle.std.proofs.Common.{◌≤◌, length}
use Rattle.xw_fill.proofs.ReasonLemmas.{AreBack}
use Rattle.xw_fill.proofs.why.leave_reason.Given as goal

abbrev pub invariant-nearest : goal.invariant-nearest
invariant-nearest g l = record {
  back : AreBack (g.E.Feasible.state l.fn.engine) (g.E.Feasible.state l.engine);
  within : l.from ≤ length l.entered;
}

abbrev pub decreases-nearest : goal.decreases-nearest
decreases-nearest g l = l.from
