use Rattle.std.proofs.Common.{length, ap, arith}
use Rattle.xw_net.specs.Worklist.{ListOfLights}
use Rattle.xw_net.proofs.Lists.ListsOfLights.{kept_empty}
use Rattle.xw_net.proofs.worklist.Worklist.renew.Goals as goal

pub invariant_of-self : goal.invariant_of-self
invariant_of-self c =
    kept_empty c.args.marks.items c.clear.new.self.items _ _ c.clear.ensures.items (omega (arith, c.requires, c.args.marks.ok.0, ap length c.start.ensures, ap (λ (l : ListOfLights). l.room) c.self.view_is))
    (omega (arith, c.self.invariant.held, ap length c.start.ensures, c.clear.ensures.capacity))
