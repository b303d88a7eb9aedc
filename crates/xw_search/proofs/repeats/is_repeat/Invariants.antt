use Rattle.xw_search.specs.Position.{position_of}
use Rattle.xw_search.proofs.LinkLemmas.{IsWalking, lights_left}
use Rattle.xw_search.proofs.repeats.is_repeat.Given as goal

abbrev pub invariant-loop-next : goal.invariant-loop-next
invariant-loop-next g l = IsWalking (position_of (g.E.Feasible.state l.engine)) l.light l.next

abbrev pub decreases-loop-next : goal.decreases-loop-next
decreases-loop-next g l = lights_left l.next
