use Rattle.xw_files.proofs.TextLemmas.OneFault.{has_one_first_fault}
use Rattle.xw_files.proofs.text.reading.text_has_one_first_fault.Goals as goal

pub returns : goal.returns
returns c = has_one_first_fault
