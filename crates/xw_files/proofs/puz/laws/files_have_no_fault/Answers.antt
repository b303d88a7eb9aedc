use Rattle.xw_files.proofs.PuzLemmas.Related.{readable}
use Rattle.xw_files.proofs.PuzLemmas.FirstFaults.{no_fault}
use Rattle.xw_files.proofs.puz.laws.files_have_no_fault.Goals as goal

pub returns : goal.returns
returns c = λ bytes puzzle small is. let read = readable bytes puzzle small is in no_fault bytes read.0 small read.1
