use Rattle.std.proofs.Common.{◌∙◌, refl, sym, ap}
use Rattle.xw_lines.specs.Cut.{lines_of}
use Rattle.xw_session_laws.specs.Replay.{replayed_lines}
use Rattle.xw_session_laws.proofs.AnsweredAgain.{spoken_left, first_refused}
use Rattle.xw_session_laws.proofs.JournalLines.{lines_again}
use Rattle.xw_session_laws.proofs.JournalAgain.{journal_replays}
use Rattle.xw_session_laws.proofs.answered_journals_make_sessions_again.Goals as goal

pub returns-clause-made : goal.returns-clause-made
returns-clause-made c = λ start end last lines bytes out is plain done said.
    sym (spoken_left (lines_of bytes) start last end out 0 (lines_again start end bytes (journal_replays lines start end bytes is plain done)) said refl)

pub returns-clause-memory : goal.returns-clause-memory
returns-clause-memory c = λ start end mid last lines front rest line bytes out answer is plain done parts said refused.
    first_refused start mid last end front rest line out answer
    (ap (replayed_lines start) (sym parts) ∙ lines_again start end bytes (journal_replays lines start end bytes is plain done)) said refused
