use Rattle.std.proofs.Common.{◌∙◌}
use Rattle.xw_session_laws.proofs.RecordAgain.{commands_again}
use Rattle.xw_session_laws.proofs.RecordRead.{lines_read, lines_done}
use Rattle.xw_session_laws.proofs.lines_make_sessions_again.Goals as goal

pub returns-clause-read : goal.returns-clause-read
returns-clause-read c = lines_read

pub returns-clause-made : goal.returns-clause-made
returns-clause-made c = λ words made state is begins. lines_done words made is state ∙ commands_again words made state is begins
