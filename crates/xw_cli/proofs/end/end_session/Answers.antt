use Rattle.std.proofs.Common.{refl}
use Rattle.std.proofs.lemmas.Result.{err_from_is_err_and}
use Rattle.xw_cli.proofs.Steps.{closed, not_saved, saves, unanswered}
use Rattle.xw_cli.proofs.end.end_session.Goals as goal

pub returns-in_err-status : goal.returns-in_err-status
returns-in_err-status g c =
    let e = err_from_is_err_and c.from_residual.result c.from_residual.ensures.1 in
    rw (e.1, e.2)
    (unanswered c.args.named c.args.refused c.args.session.now c.args.answered _ c.in_err-status.field-0.0 c.write_saved-saved.result c.args.desk.now c.write_saved-saved.new.desk c.in_err-status.was refl
    (saves c.args.named c.args.refused c.args.session.now c.write_saved-saved.result c.args.desk.now c.write_saved-saved.new.desk c.write_saved-saved.ensures.ok c.write_saved-saved.ensures.err))

pub returns-in-Ok : goal.returns-in-Ok
returns-in-Ok g c =
    closed c.args.named c.args.refused c.args.session.now c.args.answered c.close.result c.in_ok-status.status _ c.write_saved-saved.result c.args.desk.now c.write_saved-saved.new.desk c.close.new.desk c.in_ok-status.was c.in-Ok.is
    (saves c.args.named c.args.refused c.args.session.now c.write_saved-saved.result c.args.desk.now c.write_saved-saved.new.desk c.write_saved-saved.ensures.ok c.write_saved-saved.ensures.err) c.close.ensures

pub returns-in-Err : goal.returns-in-Err
returns-in-Err g c =
    not_saved c.args.named c.args.refused c.args.session.now c.args.answered c.in_ok-status.status c.put_unsaved.result c.in-Err.failure c.write_saved-saved.result c.args.desk.now c.write_saved-saved.new.desk c.put_unsaved.new.desk
    c.in_ok-status.was c.in-Err.is
    (saves c.args.named c.args.refused c.args.session.now c.write_saved-saved.result c.args.desk.now c.write_saved-saved.new.desk c.write_saved-saved.ensures.ok c.write_saved-saved.ensures.err) c.put_unsaved.ensures
