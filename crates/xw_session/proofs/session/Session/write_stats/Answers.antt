use Rattle.xw_session.proofs.session.Session.write_stats.Goals as goal

pub returns : goal.returns
returns g c = rw (← c.self.view_is, ← c.grid.ensures) c.write_stats.ensures
