use Rattle.xw_session_laws.proofs.SessionKept.{session_begun, answer_kept}
use Rattle.xw_commands.specs.Command.{command_of}
use Rattle.xw_session_laws.proofs.sessions_keep_what_they_have.Goals as goal

pub returns-clause-begun : goal.returns-clause-begun
returns-clause-begun c = session_begun

pub returns-clause-kept : goal.returns-clause-kept
returns-clause-kept c = λ words state next line outcome answer is said formed. answer_kept words state is next formed (command_of line) outcome answer said
