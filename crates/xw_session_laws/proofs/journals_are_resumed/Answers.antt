use Rattle.xw_lines.specs.Cut.{lines_of}
use Rattle.xw_session_laws.proofs.Resumed.{lines_resumed}
use Rattle.xw_session_laws.proofs.journals_are_resumed.Goals as goal

pub returns : goal.returns
returns c = λ start end left lines bytes name told result is plain done resumed.
    lines_resumed name told start end left (lines_of bytes) result (c.journals_make_sessions_again.ensures.made start end lines bytes is plain done) resumed
