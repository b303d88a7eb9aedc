use Rattle.xw_session.proofs.session.Session.write_told.Goals as goal

pub returns-in-Stats : goal.returns-in-Stats
returns-in-Stats g c = rw c.in-Stats.is c.write_stats.ensures

pub returns-in-Record : goal.returns-in-Record
returns-in-Record g c = rw c.in-Record.is c.write_record.ensures
