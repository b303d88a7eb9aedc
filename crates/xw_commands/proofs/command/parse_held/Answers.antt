use Rattle.std.proofs.Common.{sym, ◌∙◌, ap}
use Rattle.xw_commands.specs.Command.{command_of}
use Rattle.xw_commands.proofs.Held.{held_is, too_long}
use Rattle.xw_commands.proofs.command.parse_held.Goals as goal

pub returns-in-Some : goal.returns-in-Some
returns-in-Some c = λ whole h. c.parse.ensures ∙ ap command_of (sym (held_is whole c.in-Some.line.now (rw c.in-Some.is at h)))

pub returns-in-None : goal.returns-in-None
returns-in-None c = λ whole h. sym (too_long whole (rw c.in-None.is at h))
