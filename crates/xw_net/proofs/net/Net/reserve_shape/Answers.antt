use Rattle.std.proofs.Common.{Some}
use Rattle.xw_net.proofs.Nets.NetsAlike.{roomier_alike}
use Rattle.xw_net.proofs.net.Net.reserve_shape.Goals as goal

pub returns-clause-same : goal.returns-clause-same
returns-clause-same c = roomier_alike c.args.self.now c.reserve_lights.new.self (Some c.in_ok-spare.spare) c.reserve_lights.ensures.same

pub returns-in_err-spare-clause-same : goal.returns-in_err-spare-clause-same
returns-in_err-spare-clause-same c = roomier_alike c.args.self.now c.reserve_lights.new.self c.reserve_lights.new.self.spare c.reserve_lights.ensures.same
