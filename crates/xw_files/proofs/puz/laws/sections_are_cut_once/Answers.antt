use Rattle.xw_files.proofs.PuzLemmas.Cuts.{bytes_are_cut, one-cut}
use Rattle.xw_files.proofs.puz.laws.sections_are_cut_once.Goals as goal

pub returns-clause-some : goal.returns-clause-some
returns-clause-some c = bytes_are_cut

pub returns-clause-one : goal.returns-clause-one
returns-clause-one c = one-cut
