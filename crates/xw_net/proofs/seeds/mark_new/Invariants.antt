use Rattle.std.proofs.Common.{◌≡◌, ◌<◌, None}
use Rattle.xw_net.specs.Renumber.{same_before}
use Rattle.xw_net.specs.Worklist.{Adds}
use Rattle.xw_net.proofs.seeds.mark_new.Given as goal

abbrev pub invariant-loop-light : goal.invariant-loop-light
invariant-loop-light l = record {
  queue : Adds (λ other. (other < l.light) × (same_before l.before l.lights other ≡ None)) l.fn.queue l.queue;
  chain : Adds (λ other. (other < l.light) × (same_before l.before l.lights other ≡ None)) l.fn.chain l.chain;
}
