use Rattle.std.proofs.Common.{refl}
use Rattle.std.specs.Prelude.{None}
use Rattle.xw_commands.specs.declared.query.Query.TheVariants as queries
use Rattle.xw_session.specs.Help.{all_forms}
use Rattle.xw_session.proofs.Answering.{query_answers}
use Rattle.xw_session.proofs.session.Session.answer_forms.Goals as goal

pub returns : goal.returns
returns g c = rw c.accepted.ensures (query_answers g.W.Sink.transcript g.W.Sink.failures c.args.self.now (queries.Help None) all_forms _ _ _ refl c.write_all_forms.ensures)
