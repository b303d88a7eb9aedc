use Rattle.std.proofs.Common.{◌≡◌, None, Some}
use Rattle.std.specs.Prelude.{Ok}
use Rattle.xw_commands.specs.Command.{command_of}
use Rattle.xw_session.specs.Resuming.{line_fault}
use Rattle.xw_session.specs.State.{drawn}
use Rattle.xw_session.proofs.DrawnLines.{line-drawn, some-weaker}
use Rattle.xw_session.proofs.session.Session.draft_line.Goals as goal

pub returns-in_ok-ended-in-Ok-Some-clause-some : goal.returns-in_ok-ended-in-Ok-Some-clause-some
returns-in_ok-ended-in-Ok-Some-clause-some g c =
    let ok = c.in-Ok-Some.ensures in
    let is : command_of c.args.line.now ≡ Ok (Some c.in-Ok-Some.command) = cc in
    let whole : line_fault c.args.line.now ≡ None = cc in
    some-weaker c.note.result
    (λ refused noted. line-drawn c.args.file.now c.args.number (drawn c.args.self.now c.args.draft.now) (drawn c.draft_command.new.self c.draft_command.new.draft) c.args.line.now c.in-Ok-Some.command is whole c.in_ok-ended-in-Ok-Some.ended refused c.args.reports.now.items c.note.new.reports.items c.in_ok-ended-in-Ok-Some.ensures.some noted)
    c.note.ensures.some
