use Rattle.std.proofs.Common.{arith}
use Rattle.std.proofs.lemmas.Grind.{common_steps}
use Rattle.xw_net.proofs.Lists.ListsOfLights.{kept_empty}
use Rattle.xw_net.proofs.worklist.Worklist.new.Goals as goal

pub invariant_of-result : goal.invariant_of-result
invariant_of-result c = kept_empty _ c.in_ok-with_capacity.field-0.items _ _ c.in_ok-with_capacity.ensures.items (grind (arith, common_steps)) (grind (arith, common_steps))
