use Rattle.std.proofs.Common.{ap, ◌∙◌}
use Rattle.xw_net.specs.Worklist.{ListOfLights, is_marked}
use Rattle.xw_net.proofs.worklist.Worklist.contains.Goals as goal

pub returns : goal.returns
unfolding is_marked
returns c = ap (λ marks. is_marked marks c.args.light) c.as_slice.ensures.value ∙ ap (λ (l : ListOfLights). is_marked l.marks c.args.light) c.self.view_is
