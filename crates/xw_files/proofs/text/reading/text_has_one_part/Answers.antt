use Rattle.xw_files.proofs.TextLemmas.Laws.{has_one_part}
use Rattle.xw_files.proofs.text.reading.text_has_one_part.Goals as goal

pub returns : goal.returns
returns c = has_one_part
