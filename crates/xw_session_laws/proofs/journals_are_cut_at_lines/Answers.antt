use Rattle.xw_session_laws.proofs.JournalCut.{journal_cut}
use Rattle.xw_session_laws.proofs.JournalFiles.{file_cut}
use Rattle.xw_session_laws.proofs.journals_are_cut_at_lines.Goals as goal

pub returns : goal.returns
returns c = record { lines = journal_cut; files = file_cut }
