use Rattle.xw_session_laws.proofs.JournalLines.{lines_again, nothing_behind}
use Rattle.xw_session_laws.proofs.JournalAgain.{journal_replays}
use Rattle.xw_session_laws.proofs.journals_make_sessions_again.Goals as goal

pub returns-clause-made : goal.returns-clause-made
returns-clause-made c = λ start end lines bytes is plain done. lines_again start end bytes (journal_replays lines start end bytes is plain done)

pub returns-clause-whole : goal.returns-clause-whole
returns-clause-whole c = λ start end lines bytes is plain done. nothing_behind start end bytes (journal_replays lines start end bytes is plain done)
