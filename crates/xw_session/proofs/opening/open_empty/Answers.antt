use Rattle.xw_session.proofs.Opened.{opened_on_empty}
use Rattle.xw_session.proofs.opening.open_empty.Goals as goal

pub returns-in-Ok : goal.returns-in-Ok
returns-in-Ok g c = record { ok = opened_on_empty _ (g.F.Feasible.state c.in-Ok.engine) c.args.bank.words c.in_ok-grid.grid c.new.ensures c.in-Ok.ensures.ok c.in_ok-grid.ensures.ok }
