use Rattle.xw_net.proofs.Levels.SettledAgain.{settled_back}
use Rattle.xw_net.proofs.net.Net.take_back.Goals as goal

pub returns-clause-back : goal.returns-clause-back
returns-clause-back c before now way settled =
    let undone = c.undo.ensures in
    settled_back c.args.level.now now before c.args.self.now c.undo.new.self way settled (undone.like before way)
    (record { room = undone.room; many = undone.many; many_base = undone.many_base; rest = undone.rest })
