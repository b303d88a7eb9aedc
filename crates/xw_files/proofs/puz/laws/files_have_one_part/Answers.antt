use Rattle.xw_files.proofs.PuzLemmas.Related.{one_part}
use Rattle.xw_files.proofs.puz.laws.files_have_one_part.Goals as goal

pub returns : goal.returns
returns c = one_part
