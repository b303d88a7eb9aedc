use Rattle.std.proofs.Common.{refl}
use Rattle.xw_commands.specs.declared.query.Query.TheVariants as queries
use Rattle.xw_answers.specs.Text.{circle_lines}
use Rattle.xw_session.proofs.Answering.{query_answers}
use Rattle.xw_session.proofs.session.Session.answer_circles.Goals as goal

pub returns : goal.returns
returns g c = rw c.accepted.ensures (query_answers g.W.Sink.transcript g.W.Sink.failures c.args.self.now queries.Circles (circle_lines c.args.self.now.engine.grid c.args.self.now.circles) _ _ _ refl (rw (← c.self.view_is, ← c.grid.ensures) c.write_circles.ensures))
