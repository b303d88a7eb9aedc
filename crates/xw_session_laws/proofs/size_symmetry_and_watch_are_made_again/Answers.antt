use Rattle.std.proofs.Common.{◌∙◌, refl, sym}
use Rattle.xw_session_laws.proofs.Replaying.{size_again, symmetry_again}
use Rattle.xw_session_laws.proofs.size_symmetry_and_watch_are_made_again.Goals as goal

pub returns-clause-size : goal.returns-clause-size
returns-clause-size c = size_again

pub returns-clause-symmetry : goal.returns-clause-symmetry
returns-clause-symmetry c = λ state made is wide high. symmetry_again state made.engine.grid.symmetry (λ quarter. wide ∙ is.turned quarter ∙ sym high)

pub returns-clause-watch : goal.returns-clause-watch
returns-clause-watch c = λ state made. refl
