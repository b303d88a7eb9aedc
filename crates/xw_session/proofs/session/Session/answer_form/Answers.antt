use Rattle.std.specs.Prelude.{Some}
use Rattle.xw_commands.specs.declared.query.Query.TheVariants as queries
use Rattle.xw_answers.specs.Text.{word_line}
use Rattle.xw_session.proofs.Answering.{query_answers, query_refused}
use Rattle.xw_session.proofs.session.Session.answer_form.Goals as goal

pub returns-in-Ok : goal.returns-in-Ok
returns-in-Ok g c = rw c.accepted.ensures (query_answers g.W.Sink.transcript g.W.Sink.failures c.args.self.now (queries.Help (Some c.args.word.now)) (word_line c.in-Ok.form.now) _ _ _ c.in-Ok.ensures.ok c.write_form.ensures)

pub returns-in-Err : goal.returns-in-Err
returns-in-Err g c = query_refused g.W.Sink.transcript g.W.Sink.failures c.args.self.now (queries.Help (Some c.args.word.now)) c.in-Err.refusal _ c.in-Err.ensures.refused
