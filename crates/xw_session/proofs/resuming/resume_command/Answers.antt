use Rattle.xw_session.proofs.DrawnLines.{line-drawn}
use Rattle.xw_session.proofs.Resumed.{may-done}
use Rattle.xw_session.proofs.resuming.resume_command.Goals as goal

pub returns-in-Some-clause-done : goal.returns-in-Some-clause-done
returns-in-Some-clause-done g c = λ line is whole.
    line-drawn c.args.file.now c.args.number c.args.session.now c.redo.new.session line c.args.command is whole c.in-Ok.ended c.in-Some.refused c.args.reports.now.items c.note.new.reports.items c.in-Ok.ensures.done c.in-Some.ensures.some

pub returns-in-None-clause-done : goal.returns-in-None-clause-done
returns-in-None-clause-done g c = λ line is whole.
    (whole, may-done c.args.session.now c.redo.new.session line c.args.command is c.in-Ok.ended c.in-Ok.ensures.done)

pub returns-in-Err-clause-done : goal.returns-in-Err-clause-done
returns-in-Err-clause-done g c = λ line is whole.
    let short = c.in-Err.ensures.memory in
    (whole, may-done c.args.session.now c.redo.new.session line c.args.command is short.0 short.1)
