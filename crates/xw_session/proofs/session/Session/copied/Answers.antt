use Rattle.std.proofs.Common.{rules}
use Rattle.xw_session.proofs.session.Session.copied.Goals as goal

pub returns-clause-ok : goal.returns-clause-ok
returns-clause-ok g c = search rules
