use Rattle.std.proofs.Common.{sym, ap, subst, arith}
use Rattle.xw_feas.specs.Board.{light_at}
use Rattle.xw_net.specs.Marks.{IsReady}
use Rattle.xw_net.specs.Due.{IsClosed, HasQueued, set_cost}
use Rattle.xw_net.specs.Nets.{marks_of, letter_stands}
use Rattle.xw_net.specs.Steps.{IsStrippable}
use Rattle.xw_net.specs.Filled.{IsUnstripped, IsFilled}
use Rattle.xw_net.proofs.Nets.SlotsApart.{setting_of}
use Rattle.xw_net.proofs.Costs.ClosedForStripping.{region_is_closed}
use Rattle.xw_net.proofs.Costs.CostBounds.{stripping-is}
use Rattle.xw_net.proofs.Nets.SettledNets.{filled_settled}
use Rattle.xw_net.proofs.net.Net.strip.Goals as goal

pub strip_queued-requires-clause-net : goal.strip_queued-requires-clause-net
strip_queued-requires-clause-net g c = subst (λ b. IsStrippable b (g.R.Rows.entries c.args.rows.now) c.args.self.now) (sym c.new-board.ensures) (record { shaped = c.requires.shaped; bits = c.requires.bits })

pub returns-clause-settled : goal.returns-clause-settled
returns-clause-settled g c words read formed unstripped =
    let setting = setting_of (record { grid = c.args.grid.now; words = words }) c.new-board.result (g.R.Rows.entries c.args.rows.now) c.new-board.ensures read formed in
    filled_settled c.args.grid.now words c.strip_queued.new.self (subst (λ b. IsFilled b words c.strip_queued.new.self) c.new-board.ensures
    (c.strip_queued.ensures.filled words setting (subst (λ b. IsUnstripped b words c.args.self.now) (sym c.new-board.ensures) unstripped)))

pub returns-clause-cost : goal.returns-clause-cost
returns-clause-cost g c before words action member read formed revived region =
    let setting = setting_of (record { grid = c.args.grid.now; words = words }) c.new-board.result (g.R.Rows.entries c.args.rows.now) c.new-board.ensures read formed in
    let ready = revived.unstripped.ready in
    let closed = region_is_closed before (record { grid = c.args.grid.now; words = words }) action member _ _ region ready.sound.within in
    let back = sym c.new-board.ensures in
    let stripping = c.strip_queued.ensures.cost words (λ light. member (light_at c.new-board.result light)) setting (subst (λ b. IsReady b words (marks_of c.args.self.now)) back ready)
    (subst (λ b. IsClosed b words (λ light. member (light_at b light)) (letter_stands c.args.self.now)) back closed)
    (subst (λ b. HasQueued b (λ light. member (light_at b light)) (marks_of c.args.self.now)) back (λ light in_board on. revived.queued member region light on)) in
    omega (arith, stripping, ap (λ b. set_cost b words (λ light. member (light_at b light))) c.new-board.ensures, stripping-is (record { grid = c.args.grid.now; words = words }) member)
