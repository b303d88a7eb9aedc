use Rattle.std.proofs.Common.{◌<◌}
use Rattle.xw_net.specs.Worklist.{Adds}
use Rattle.xw_net.proofs.seeds.mark_all.Given as goal

abbrev pub invariant-loop-light : goal.invariant-loop-light
invariant-loop-light l = Adds (λ light. light < l.light) l.fn.chain l.chain
