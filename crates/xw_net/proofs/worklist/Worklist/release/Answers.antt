use Rattle.std.proofs.Common.{◌≡◌, false, subst, sym}
use Rattle.xw_net.specs.Worklist.{ListOfLights, is_waiting}
use Rattle.xw_net.proofs.Lists.ListsOfLights.{kept_marked, released_list}
use Rattle.xw_net.proofs.worklist.Worklist.release.Goals as goal

pub invariant_of-self : goal.invariant_of-self
invariant_of-self c =
    kept_marked c.self.inside.marks.items c.self.inside.lights.items _ _ c.self.invariant _
    (released_list c.self.inside.marks.items c.self.inside.lights.items _ c.args.light c.self.invariant.list (subst (λ (l : ListOfLights). is_waiting l.lights c.args.light ≡ false) (sym c.self.view_is) c.requires.taken))
