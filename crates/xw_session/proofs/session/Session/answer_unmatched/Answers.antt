use Rattle.std.proofs.Common.{refl}
use Rattle.xw_commands.specs.declared.query.Query.TheVariants as queries
use Rattle.xw_session.specs.Reports.{light_report}
use Rattle.xw_session.specs.Unmatched.{unmatched_line}
use Rattle.xw_session.proofs.Answering.{query_answers}
use Rattle.xw_session.proofs.session.Session.answer_unmatched.Goals as goal

pub returns : goal.returns
returns g c = rw c.accepted.ensures (query_answers g.W.Sink.transcript g.W.Sink.failures c.args.self.now queries.Unmatched (light_report unmatched_line c.args.self.now.engine) _ _ _ refl (rw (← c.self.view_is) c.write_each_light.ensures))
