use Rattle.xw_session.proofs.Answering.{broken_executed, was_executed}
use Rattle.xw_session.proofs.resuming.redo.Goals as goal

pub returns-in-Ok-clause-done : goal.returns-in-Ok-clause-done
returns-in-Ok-clause-done g c = was_executed _ _ c.args.session.now c.perform.new.self c.args.command c.in-Ok.ended _ _ (rw c.in-Ok.is at c.perform.ensures)

pub returns-clause-memory : goal.returns-clause-memory
returns-clause-memory g c = broken_executed _ _ c.args.session.now c.perform.new.self c.args.command c.in-Err.field-0 _ _ (rw c.in-Err.is at c.perform.ensures)
