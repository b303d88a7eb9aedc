use Rattle.std.proofs.Common.{◌∙◌, refl, sym, ap}
use Rattle.xw_lines.specs.Cut.{lines_of}
use Rattle.xw_session.specs.Record.{record_lines}
use Rattle.xw_session_laws.specs.Replay.{replayed_lines}
use Rattle.xw_session_laws.proofs.RecordAgain.{commands_again}
use Rattle.xw_session_laws.proofs.RecordRead.{lines_done}
use Rattle.xw_session_laws.proofs.AnsweredAgain.{spoken_left, first_refused}
use Rattle.xw_session_laws.proofs.records_make_sessions_again.Goals as goal

pub returns-clause-made : goal.returns-clause-made
returns-clause-made c = λ words made state last out is begins said.
    sym (spoken_left (lines_of (record_lines made)) state last (record made { begun = state.begun }) out 0 (lines_done words made is state ∙ commands_again words made state is begins) said refl)

pub returns-clause-memory : goal.returns-clause-memory
returns-clause-memory c = λ words made state mid last front rest line out answer is begins parts said refused.
    first_refused state mid last (record made { begun = state.begun }) front rest line out answer
    (ap (replayed_lines state) (sym parts) ∙ lines_done words made is state ∙ commands_again words made state is begins) said refused
