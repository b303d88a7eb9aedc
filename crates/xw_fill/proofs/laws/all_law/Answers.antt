use Rattle.xw_fill.proofs.Naming.{fill_from_all, all_from_laid}
use Rattle.xw_fill.proofs.laws.all_law.Goals as goal

pub returns-clause-fill : goal.returns-clause-fill
returns-clause-fill c = fill_from_all

pub returns-clause-of_all : goal.returns-clause-of_all
returns-clause-of_all c = all_from_laid
