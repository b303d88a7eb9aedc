use Rattle.std.proofs.Common.{sym, subst}
use Rattle.xw_net.specs.Marks.{IsSetting}
use Rattle.xw_net.proofs.Nets.NetsAlike.{roomier_filled}
use Rattle.xw_net.proofs.net.Net.fill.Goals as goal

pub returns-clause-filled : goal.returns-clause-filled
returns-clause-filled g c dictionary setting =
    let setting' = subst (λ e. IsSetting c.args.board.now e dictionary) (sym c.bring_all.ensures.entries) setting in
    roomier_filled c.strip_queued.new.self c.keep_counts.new.self c.keep_counts.ensures c.args.board.now dictionary
    (c.strip_queued.ensures.filled dictionary setting' (c.bring_all.ensures.unstripped dictionary setting))
