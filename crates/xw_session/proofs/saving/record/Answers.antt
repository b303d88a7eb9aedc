use Rattle.std.proofs.Common.{rules}
use Rattle.xw_session.proofs.saving.record.Goals as goal

pub returns-in-Ok : goal.returns-in-Ok
returns-in-Ok g c = search rules
