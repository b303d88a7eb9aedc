use Rattle.xw_session.proofs.session.Session.step.Goals as goal

pub returns-clause-answer : goal.returns-clause-answer
returns-clause-answer g c = rw (← c.parse.ensures) c.execute.ensures.answer
