use Rattle.xw_feas.proofs.LawLemmas.{written_in_turn, refused_in_turn}
use Rattle.xw_feas.proofs.laws.cells_are_written_in_turn.Goals as goal

pub returns-clause-accepted : goal.returns-clause-accepted
returns-clause-accepted c = written_in_turn

pub returns-clause-refused : goal.returns-clause-refused
returns-clause-refused c = refused_in_turn
