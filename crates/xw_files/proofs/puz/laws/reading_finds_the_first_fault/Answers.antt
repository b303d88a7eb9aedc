use Rattle.xw_files.proofs.PuzLemmas.Ranks.{one_first}
use Rattle.xw_files.proofs.PuzLemmas.FirstFaults.{first_fault}
use Rattle.xw_files.proofs.puz.laws.reading_finds_the_first_fault.Goals as goal

pub returns-clause-found : goal.returns-clause-found
returns-clause-found c = first_fault

pub returns-clause-one : goal.returns-clause-one
returns-clause-one c = one_first
