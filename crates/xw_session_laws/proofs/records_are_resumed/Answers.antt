use Rattle.xw_lines.specs.Cut.{lines_of}
use Rattle.xw_session.specs.Record.{record_lines}
use Rattle.xw_session_laws.proofs.Resumed.{lines_resumed}
use Rattle.xw_session_laws.proofs.records_are_resumed.Goals as goal

pub returns : goal.returns
returns c = λ words made start left name told result is begins resumed.
    lines_resumed name told start (record made { begun = start.begun }) left (lines_of (record_lines made)) result
    (c.lines_make_sessions_again.ensures.made words made start is begins) resumed
