use Rattle.xw_files.proofs.PuzLemmas.Again.{written_is_read}
use Rattle.xw_files.proofs.puz.laws.what_is_written_is_read.Goals as goal

pub returns : goal.returns
returns c = written_is_read
