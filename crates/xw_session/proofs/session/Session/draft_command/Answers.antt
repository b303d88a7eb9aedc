use Rattle.std.proofs.Common.{◌∙◌, sym}
use Rattle.xw_session.specs.State.{drawn}
use Rattle.xw_session.proofs.DrawnLines.{told-executed}
use Rattle.xw_session.proofs.session.Session.draft_command.Goals as goal

pub returns-in-Ask-clause-some : goal.returns-in-Ask-clause-some
returns-in-Ask-clause-some g c = rw c.in-Ask.is (told-executed (drawn c.args.self.now c.args.draft.now) c.in-Ask.query (sym c.is_report.ensures ∙ c.if-is_report.true))
