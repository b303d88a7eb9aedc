use Rattle.std.proofs.Common.{ℕ, List, ◌∙◌, ap, arith}
use Rattle.xw_words.specs.Dictionary.{Entry}
use Rattle.xw_net.specs.Layout.{layout_of}
use Rattle.xw_net.proofs.Nets.NetsAlike.{roomier_alike}
use Rattle.xw_net.proofs.Costs.CostBounds.{settled_cost}
use Rattle.xw_net.proofs.net.Net.settle.Goals as goal

pub returns-clause-settled : goal.returns-clause-settled
returns-clause-settled g c before words action read is settled =
    (roomier_alike c.strip.new.self c.keep_counts.new.self c.keep_counts.new.self.spare c.keep_counts.ensures).settled (layout_of c.args.grid.now) words
    (c.strip.ensures.settled words (λ len. ap (λ (entries : ℕ → List Entry). entries len) c.revive.ensures.entries ∙ read len) is.formed_now
    (c.revive.ensures.revived before words action read is settled).unstripped)

pub returns-clause-cost : goal.returns-clause-cost
returns-clause-cost g c before words action member read is settled region =
    let reviving = c.revive.ensures.cost before words action member read is settled region in
    let stripping = c.strip.ensures.cost before words action member (λ len. ap (λ (entries : ℕ → List Entry). entries len) c.revive.ensures.entries ∙ read len) is.formed_now
    (c.revive.ensures.revived before words action read is settled) region in
    omega (arith, reviving, stripping, settled_cost (record { grid = c.args.grid.now; words = words }) member is.formed_now.board)
