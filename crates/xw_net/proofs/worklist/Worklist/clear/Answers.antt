use Rattle.std.proofs.Common.{length, ap, arith}
use Rattle.std.proofs.lemmas.Grind.{common_steps}
use Rattle.xw_net.proofs.Lists.ListsOfLights.{kept_empty}
use Rattle.xw_net.proofs.worklist.Worklist.clear.Goals as goal

pub invariant_of-self : goal.invariant_of-self
invariant_of-self c =
    kept_empty _ c.clear.new.self.items _ _ c.clear.ensures.items (grind (arith, common_steps, c.self.invariant.list.roomy, ap length c.stop.ensures))
    (omega (arith, c.self.invariant.held, ap length c.stop.ensures, c.clear.ensures.capacity))
