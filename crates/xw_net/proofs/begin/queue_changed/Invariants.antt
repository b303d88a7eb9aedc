use Rattle.std.proofs.Common.{◌<◌}
use Rattle.xw_net.specs.Begin.{MayConcern}
use Rattle.xw_net.specs.Worklist.{Adds}
use Rattle.xw_net.proofs.begin.queue_changed.Given as goal

abbrev pub invariant-loop-light : goal.invariant-loop-light
invariant-loop-light l = Adds (λ light. (light < l.light) × MayConcern l.board l.word l.base l.words light) l.fn.queue l.queue
