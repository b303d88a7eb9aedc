use Rattle.xw_session.proofs.Answering.{wrote_lines, wrote_accepted}
use Rattle.xw_session.proofs.session.ending.write_given.Goals as goal

pub returns-in-Ok-clause-sends : goal.returns-in-Ok-clause-sends
returns-in-Ok-clause-sends g c = rw (c.in-Ok.is, c.accepted.ensures) (λ state. wrote_lines g.W.Sink.transcript g.W.Sink.failures _ _ _ _ c.write_lines.ensures)

pub returns-in-Ok-clause-ends : goal.returns-in-Ok-clause-ends
returns-in-Ok-clause-ends g c = rw (c.in-Ok.is, c.accepted.ensures) (λ state. wrote_accepted c.write_lines.result)
