use Rattle.xw_words.specs.WordList.{words_among, results_of}
use Rattle.xw_session_laws.proofs.SessionOpened.{none_known, words_listed}
use Rattle.xw_session_laws.proofs.PuzOpened.{puz_opened}
use Rattle.xw_session_laws.proofs.TextOpened.{text_opened}
use Rattle.xw_session_laws.proofs.sessions_open_with_files.Goals as goal

pub returns-clause-empty : goal.returns-clause-empty
returns-clause-empty c = none_known

pub returns-clause-listed : goal.returns-clause-listed
returns-clause-listed c = λ bytes. words_listed (words_among (results_of bytes))

pub returns-clause-puz : goal.returns-clause-puz
returns-clause-puz c = puz_opened

pub returns-clause-text : goal.returns-clause-text
returns-clause-text c = text_opened
