use Rattle.xw_files.proofs.TextLemmas.Found.{is_found, is_bare}
use Rattle.xw_files.proofs.TextLemmas.Laws.{is_only}
use Rattle.xw_files.proofs.TextLemmas.FirstFault.{is_first, is_faultless}
use Rattle.xw_files.proofs.text.reading.read_text.Goals as goal

pub returns-clause-found : goal.returns-clause-found
returns-clause-found c = is_found _ _ c.all.ensures

pub returns-clause-bare : goal.returns-clause-bare
returns-clause-bare c = is_bare _ _ c.all.ensures

pub returns-clause-only : goal.returns-clause-only
returns-clause-only c = is_only _ _ c.all.ensures

pub returns-clause-first : goal.returns-clause-first
returns-clause-first c = is_first _ _ c.all.ensures

pub returns-clause-faultless : goal.returns-clause-faultless
returns-clause-faultless c = is_faultless _ _ c.all.ensures
