use Rattle.std.proofs.Common.{length, ap, ◌∙◌}
use Rattle.xw_net.specs.Worklist.{is_marked}
use Rattle.xw_net.proofs.Lists.QuietNets.{all_false}
use Rattle.xw_net.proofs.net.Net.unmark.Goals as goal

pub returns-clause-marked : goal.returns-clause-marked
unfolding is_marked
returns-clause-marked c light = ap (λ list. is_marked list.marks light) c.clear.ensures ∙ all_false (length c.args.self.now.chain.marks) light
