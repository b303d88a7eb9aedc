use Rattle.std.proofs.Common.{rules}
use Rattle.xw_net.specs.Room.{counts_of}
use Rattle.xw_net.proofs.Nets.RenumberedLights.{room_after}
use Rattle.xw_net.proofs.net.Net.renumber.Goals as goal

pub returns-clause-room : goal.returns-clause-room
returns-clause-room g c = room_after c.args.before.now c.args.after.now c.requires.after (counts_of (g.R.Rows.entries c.args.words.now)) c.args.self.now _ (search rules)
