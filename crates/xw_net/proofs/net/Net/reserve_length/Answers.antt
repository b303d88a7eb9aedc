use Rattle.std.proofs.Common.{None}
use Rattle.xw_net.proofs.Nets.NetsAlike.{roomier_alike}
use Rattle.xw_net.proofs.Nets.SettledNets.{stands_rows}
use Rattle.xw_net.proofs.net.Net.reserve_length.Goals as goal

pub reserve_word-requires-clause-rows : goal.reserve_word-requires-clause-rows
reserve_word-requires-clause-rows c = (stands_rows c.args.lights.now c.args.self.now c.requires).0

pub reserve_word-requires-clause-base : goal.reserve_word-requires-clause-base
reserve_word-requires-clause-base c = (stands_rows c.args.lights.now c.args.self.now c.requires).1

pub returns-clause-same : goal.returns-clause-same
returns-clause-same c = roomier_alike c.args.self.now c.reserve_word.new.self None c.reserve_word.ensures.same

pub returns-in_err-reserve_word-clause-same : goal.returns-in_err-reserve_word-clause-same
returns-in_err-reserve_word-clause-same c = roomier_alike c.args.self.now c.reserve_word.new.self c.reserve_word.new.self.spare c.reserve_word.ensures.same
