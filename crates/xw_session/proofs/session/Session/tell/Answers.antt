use Rattle.std.proofs.Common.{refl}
use Rattle.xw_commands.specs.declared.query.Query.TheVariants as queries
use Rattle.xw_session.specs.Reports.{told_lines}
use Rattle.xw_session.proofs.Answering.{query_answers}
use Rattle.xw_session.proofs.session.Session.tell.Goals as goal

pub returns : goal.returns
returns g c = rw c.accepted.ensures (query_answers g.W.Sink.transcript g.W.Sink.failures c.args.self.now (queries.Tell c.args.report) (told_lines c.args.self.now c.args.report) _ _ _ refl c.write_told.ensures)
